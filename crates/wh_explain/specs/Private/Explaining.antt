-- The part of Explaining that only contracts of private functions cite.
use Rattle.std.specs.Prelude.{◌≡◌, false}
use Rattle.wh_workflow.specs.Law.{Program}
use Rattle.wh_workflow.specs.Scripts.{Settled}
use Rattle.wh_workflow.specs.ActivationScripts.{settled_after, state_after}
use Rattle.wh_explained_tasks.specs.declared.ExplainedTask.{ExplainedTask}
use Rattle.wh_explain.specs.Explaining.{stops}

module _ {S : Type 0} where
  -- if the task does not stop the replay, it leaves this state and these versions
  abbrev pub LeavesTask : Program S → S → Settled → ExplainedTask → S → Settled → Type 0
  LeavesTask program state settled task left versions =
      stops task.ending ≡ false → (left ≡ state_after program state task.steps)
      × (versions ≡ settled_after settled task.steps)
