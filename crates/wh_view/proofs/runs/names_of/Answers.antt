use Rattle.std.proofs.Common.{◌≡◌, ℕ, List, refl}
use Rattle.std.specs.Prelude.{option_map}
use Rattle.serde_json.specs.View.{view}
use Rattle.wh_view.specs.declared.view.RunNames.{RunNames}
use Rattle.wh_view.specs.Runs.{names_of}
use Rattle.wh_view.proofs.runs.names_of.Goals as goal

-- the names that were read are those of the record
names_made : (names : RunNames) (workflow_id run_id task_queue parent_workflow_id parent_run_id previous_run_id : List ℕ)
    → workflow_id ≡ names.workflow_id → run_id ≡ names.run_id → task_queue ≡ names.task_queue
    → parent_workflow_id ≡ names.parent_workflow_id → parent_run_id ≡ names.parent_run_id → previous_run_id ≡ names.previous_run_id
    → record {
      workflow_id = workflow_id;
      run_id = run_id;
      task_queue = task_queue;
      parent_workflow_id = parent_workflow_id;
      parent_run_id = parent_run_id;
      previous_run_id = previous_run_id;
    } ≡ names
names_made names workflow_id run_id task_queue parent_workflow_id parent_run_id previous_run_id a b c d e f = rw (a, b, c, d, e, f) refl

pub returns : goal.returns
returns c =
    names_made (names_of (option_map (λ v. view v.now) c.args.start)) _ _ _ _ _ _ c.in_ok-workflow_id.ensures c.in_ok-run_id.ensures
    c.in_ok-task_queue.ensures c.in_ok-parent_workflow_id.ensures c.in_ok-parent_run_id.ensures c.in_ok-previous_run_id.ensures
