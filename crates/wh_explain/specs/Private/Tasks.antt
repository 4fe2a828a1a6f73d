-- What replay finds of tasks: how each ends, and why no other follows.
use Rattle.std.specs.Prelude.{◌≡◌, ◌++◌, ◌∷◌, ℕ, Bool, true, false, List, [], length, Option, Some, None, is_none, Result, Ok, Err, IfOk}
use Rattle.wh_events.specs.declared.event.Event.{Event}
use Rattle.wh_events.specs.Cuts.{cuts}
use Rattle.wh_workflow.specs.declared.command.Command.{Command}
use Rattle.wh_workflow.specs.declared.job.Job.{Job}
use Rattle.wh_workflow.specs.declared.fault.WorkflowFault.{WorkflowFault}
use Rattle.wh_workflow.specs.declared.fault.Mismatch.{Mismatch}
use Rattle.wh_workflow.specs.Activations.{and_then}
use Rattle.wh_workflow.specs.Law.{Program}
use Rattle.wh_workflow.specs.Names.{mismatch}
use Rattle.wh_workflow.specs.Scripts.{ActivationContext, Settled, reduced}
use Rattle.wh_workflow.specs.ActivationScripts.{Step, fault_in, issued_in}
use Rattle.wh_replay.specs.declared.fault.ReplayedTasks.{ReplayedTasks}
use Rattle.wh_replay.specs.declared.fault.Fault.{Fault}
use Rattle.wh_replay.specs.declared.fault.Fault.TheVariants.{Workflow as WorkflowFaulty, Mismatch as Mismatched}
use Rattle.wh_replay.specs.declared.fault.RunFault.{RunFault}
use Rattle.wh_replay.specs.declared.fault.RunFault.TheVariants.{Fault as Faulty, OutOfMemory}
use Rattle.wh_replay.specs.declared.state.ReplayState.{ReplayState}
use Rattle.wh_replay.specs.Outcomes.{ends_live, replay_result}
use Rattle.wh_replay.specs.Replays.{replay_after}
use Rattle.wh_explain.specs.declared.explanation.DetailLevel.{DetailLevel}
use Rattle.wh_explain.specs.declared.explanation.DetailLevel.TheVariants.{Verdict, Steps}
use Rattle.wh_explained_tasks.specs.declared.Ending.{Ending}
use Rattle.wh_explained_tasks.specs.declared.ExplainedTask.{ExplainedTask}
use Rattle.wh_explain.specs.Differences.{last_difference}
use Rattle.wh_explain.specs.Explaining.{IsTaskAt, AreTasks}
use Rattle.wh_explain.specs.Private.Explaining.{LeavesTask}

-- the fault of a mismatch at the cut of a number
abbrev pub mismatch_at : ℕ → Option Mismatch → Option Fault
mismatch_at at None = None
mismatch_at at (Some difference) = Some (Mismatched at difference)

-- the fault of a task: that of an invalid command, or else that of a mismatch
abbrev pub fault_at : ℕ → Option WorkflowFault → Option Mismatch → Option Fault
fault_at at None difference = mismatch_at at difference
fault_at at (Some fault) difference = Some (WorkflowFaulty at fault)

-- the first difference between the commands that a task sends and its record, if it is recorded
abbrev pub mismatch_with : List Event → List Command → Option (List Event) → Option Mismatch
mismatch_with events sent None = None
mismatch_with events sent (Some recorded) = mismatch events sent recorded

-- nothing is kept of a task without a fault, if steps are not kept
abbrev pub is_passed : DetailLevel → Option Fault → Bool
is_passed Verdict fault = is_none fault
is_passed Steps fault = false

-- the explanation of a task
abbrev pub explained_task : ℕ → List ℕ → List Step → Ending → ExplainedTask
explained_task at given steps ending = record { at = at; given = given; steps = steps; ending = ending }

-- what is kept of a task: how it ends, and all of it if steps are kept
abbrev pub KeepsTask : DetailLevel → ExplainedTask → ExplainedTask → Type 0
KeepsTask Verdict kept task = kept.ending ≡ task.ending
KeepsTask Steps kept task = kept ≡ task

-- what is kept of tasks: the difference that they end in, and all of them if steps are kept
abbrev pub KeepsTasks : DetailLevel → List ExplainedTask → List ExplainedTask → Type 0
KeepsTasks Verdict kept tasks = last_difference kept ≡ last_difference tasks
KeepsTasks Steps kept tasks = kept ≡ tasks

-- what is kept of a task is added to those before it
pub record AddsKept (detail : DetailLevel) (task : ExplainedTask) (before after : List ExplainedTask) : Type 0 where
  pub kept : ExplainedTask
  pub keeps : KeepsTask detail kept task
  pub added : after ≡ before ++ kept ∷ []

-- the same, unless it is passed
abbrev pub AddsUnless : (passed : Bool) → DetailLevel → ExplainedTask → (before after : List ExplainedTask) → Type 0
AddsUnless true detail task before after = after ≡ before
AddsUnless false detail task before after = AddsKept detail task before after

-- a task ends with the fault `own`, or none: it is added to those before it, unless it is passed
pub record EndsTask (detail : DetailLevel) (task : ExplainedTask) (own : Option Fault) (before after : List ExplainedTask)
    (fault : Option Fault) : Type 0 where
  pub fault_is : fault ≡ own
  pub added : AddsUnless (is_passed detail fault) detail task before after

-- what holds of the fault that a call returns, or of none; if memory ran out, nothing is known
abbrev pub OnFault : {A : Type 0} → Result A RunFault → (Option Fault → Type 0) → Type 0
OnFault (Ok answer) Holds = Holds None
OnFault (Err (Faulty fault)) Holds = Holds (Some fault)
OnFault (Err OutOfMemory) Holds = Unit {0}

-- the fault of a task with these steps
abbrev pub task_fault : List Event → ActivationContext → Settled → ℕ → List Step → Option Fault
task_fault events context settled at steps =
    let sent = reduced context (issued_in context settled steps) in
    fault_at at (fault_in context settled [] steps) (mismatch_with events sent context.recorded)

module _ {S : Type 0} where
  -- what replay finds of a task: its explanation, which is added to those before it, unless it is passed, its fault, if it
  -- has one, and what it leaves
  pub record TakesTask (detail : DetailLevel) (program : Program S) (events : List Event) (context : ActivationContext)
      (told : List Job) (numbers : List ℕ) (at : ℕ) (state : S) (settled : Settled) (before after : List ExplainedTask)
      (result : Result (ReplayState S) RunFault) (fault : Option Fault) : Type 0 where
    pub task : ExplainedTask
    pub explained : IsTaskAt program events context told numbers at state settled task
    pub ends : EndsTask detail task (task_fault events context settled at task.steps) before after fault
    pub leaves : IfOk result (λ left. LeavesTask program state settled task left.state left.versions)

  -- what replay finds in the tasks of a history, from a state and settled versions on: how many there are and whether
  -- the last is live, or the fault of one
  abbrev pub walked : Program S → List Event → S → Settled → Result ReplayedTasks Fault
  walked program events state settled =
      and_then (replay_after program [] [] events (replay_result state settled [] 0))
      (λ _. Ok (record { tasks = length (cuts events); live = ends_live events }))

  -- the explanations of these tasks, up to the first that has a fault, kept as `detail` says
  pub record AreKept (detail : DetailLevel) (program : Program S) (events : List Event) (state : S) (settled : Settled)
      (kept : List ExplainedTask) : Type 0 where
    pub tasks : List ExplainedTask
    pub explained : AreTasks program events 0 (cuts events) state settled tasks
    pub keeps : KeepsTasks detail kept tasks
