-- The later events that are kept of the open task.
use Rattle.std.proofs.Common.{◌≡◌, List, [], Bool, true, false, Option, Some, None, Result, Ok, Err, inl, inr, refl, subst, sym}
use Rattle.std.specs.Prelude.{IfOk, if◌then◌else◌}
use Rattle.wh_client.specs.Calls.{Gives}
use Rattle.wh_client.specs.declared.asking.AskFault.{AskFault}
use Rattle.wh_events.specs.declared.event.Event.{Event}
use Rattle.wh_events.specs.declared.key.RunKey.{RunKey}
use Rattle.wh_events.specs.Keys.{same_key, same_key-true}
use Rattle.wh_notes.specs.declared.results.PollResult.{PollResult}
use Rattle.wh_notes.specs.declared.results.PollResult.TheVariants as results
use Rattle.wh_live.specs.declared.tasks.OpenTask.{OpenTask}
use Rattle.wh_live.specs.Deliveries.{AreLater, FromQueue, HasKept, later_in}
use Rattle.wh_live.specs.Private.Opening.{HasLater, IsOpened, KeepsLater, LeavesOpen, OnTask, later_events}
use Rattle.wh_commands.specs.declared.names.WorkerNames.{WorkerNames}
use Rattle.wh_replay.specs.Runs.{follows}
use Rattle.wh_tasks.specs.declared.source.Polled.{Polled}
use Rattle.wh_tasks.specs.declared.source.Polled.TheVariants as polled
use Rattle.wh_tasks.specs.declared.source.SourceFault.{SourceFault}
use Rattle.wh_tasks.specs.declared.source.WorkflowTask.{WorkflowTask}
use Rattle.wh_tasks.specs.Source.{IfTask}

module _ (gives : Gives) (names : WorkerNames) (queue : Option Bool) where
  kept_by : (opened : OpenTask) (task : WorkflowTask) (b : Bool) → FromQueue gives names queue task → opened.run ≡ task.run
      → opened.later.items ≡ (if b then [] else task.events) → AreLater gives names queue opened.run opened.later.items
  kept_by opened task true is run kept = inl kept
  kept_by opened task false is run kept = inr (task, is, sym run, sym kept)

  -- what is kept of a task that the queue returned
  pub kept_later : (opened : OpenTask) (task : WorkflowTask) → FromQueue gives names queue task → opened.run ≡ task.run
      → opened.later.items ≡ later_events task.events → AreLater gives names queue opened.run opened.later.items
  kept_later opened task is run kept = kept_by opened task (follows 0 task.events) is run kept

  -- the open task stays, or none is
  pub later_stays : (old new : Option OpenTask) → KeepsLater old new → HasLater gives names queue old → HasLater gives names queue new
  later_stays old new (inl none) had = subst (HasLater gives names queue) (sym none) tt
  later_stays old new (inr same) had = subst (HasKept gives names queue) (sym same) had

  at_key : (kept : RunKey × List Event) (run : RunKey) (b : Bool) → same_key kept.0 run ≡ b
      → AreLater gives names queue kept.0 kept.1 → AreLater gives names queue run (if b then kept.1 else [])
  at_key kept run true e had = subst (λ r. AreLater gives names queue r kept.1) (same_key-true kept.0 run e) had
  at_key kept run false e had = inl refl

  -- those that are kept for a run are later events of it
  pub later_of_run : (kept : Option (RunKey × List Event)) (run : RunKey) → HasKept gives names queue kept
      → AreLater gives names queue run (later_in kept run)
  later_of_run None run had = inl refl
  later_of_run (Some kept) run had = at_key kept run (same_key kept.0 run) refl had

  -- a poll opens a task, or leaves the one that is open
  pub opened_later : {A : Type 0} (given : Result (Polled (OpenTask × A)) SourceFault) (old : Option OpenTask)
      (result : Result (Polled A) SourceFault) (new : Option OpenTask) → IsOpened given old result new
      → IfOk given (IfTask (λ pair. AreLater gives names queue pair.0.run pair.0.later.items))
      → HasLater gives names queue old → HasLater gives names queue new
  opened_later (Ok (polled.Task pair)) old result new is later had = subst (HasLater gives names queue) (sym is.1) later
  opened_later (Ok polled.Nothing) old result new is later had = subst (HasLater gives names queue) (sym is.1) had
  opened_later (Ok polled.Closed) old result new is later had = subst (HasLater gives names queue) (sym is.1) had
  opened_later (Err fault) old result new is later had = subst (HasLater gives names queue) (sym is.1) had

-- a poll that delivers no task leaves the one that is open
pub leaves_open : {A : Type 0} (given : Result (Polled (OpenTask × A)) SourceFault) (old : Option OpenTask)
    (result : Result (Polled A) SourceFault) (new : Option OpenTask) → IsOpened given old result new → LeavesOpen result old new
leaves_open (Ok (polled.Task pair)) old result new is = subst (λ r. LeavesOpen r old new) (sym is.0) tt
leaves_open (Ok polled.Nothing) old result new is = subst (λ r. LeavesOpen r old new) (sym is.0) is.1
leaves_open (Ok polled.Closed) old result new is = subst (λ r. LeavesOpen r old new) (sym is.0) is.1
leaves_open (Err fault) old result new is = subst (λ r. LeavesOpen r old new) (sym is.0) is.1

-- what holds for the task that a poll returned holds for the one that is delivered
pub is_of_poll : {A : Type 0} (p : A → Type 0) (taken : Result (PollResult A) AskFault) (given : Result (Polled A) SourceFault)
    → IfOk taken (OnTask p) → IfOk given (IfTask (λ task. taken ≡ Ok (results.Task task))) → IfOk given (IfTask p)
is_of_poll p taken (Ok (polled.Task task)) held is = subst (λ r. IfOk r (OnTask p)) is held
is_of_poll p taken (Ok polled.Nothing) held is = tt
is_of_poll p taken (Ok polled.Closed) held is = tt
is_of_poll p taken (Err fault) held is = tt
