-- Which events give a workflow a job, and at which cut the start is given.
use Rattle.std.specs.Prelude.{◌≡◌, ℕ, ◌<◌, Bool, true, false, not, ◌&&◌, ◌||◌, List, [], ◌∷◌, ◌++◌, length, if◌then◌else◌, IsTrue}
use Rattle.wh_events.specs.declared.event.Event.{Event}
use Rattle.wh_events.specs.declared.kind.EventKind.{EventKind}
use Rattle.wh_events.specs.declared.kind.EventKind.TheVariants.{ActivityTaskStarted, WorkflowExecutionSignaled}
use Rattle.wh_events.specs.Kinds.{class_of}
use Rattle.wh_events.specs.Cuts.{is_outside_class}
use Rattle.wh_events.specs.Places.{is_start, is_start_class}
use Rattle.wh_events.specs.InPlace.{InPlace}
use Rattle.wh_workflow.specs.Jobs.{start_job, signal_job, outside_job, jobs_by}

-- the event is a signal to the workflow
abbrev pub is_signal : EventKind → Bool
is_signal (WorkflowExecutionSignaled _ _) = true
is_signal _ = false

-- the event is the start of an activity, for which the workflow gets no job
abbrev pub is_untold : EventKind → Bool
is_untold (ActivityTaskStarted _) = true
is_untold _ = false

abbrev pub one_if : Bool → ℕ
one_if test = if test then 1 else 0

-- an event gives one job: the start, as a start; a signal, among the signals; any other outside event except the start
-- of an activity, among the others; no other event gives one
pub record TellsOnce (seen : List Event) (kind : EventKind) : Type 0 where
  pub start : length (start_job kind) ≡ one_if (is_start_class (class_of kind))
  pub signal : length (signal_job kind) ≡ one_if (is_signal kind)
  pub outside : length (outside_job seen kind)
      ≡ one_if (is_outside_class (class_of kind) && not (is_signal kind || is_untold kind))

-- each event gives a workflow its job, once
abbrev pub EachTellsOnce : Type 0
EachTellsOnce = (seen : List Event) (kind : EventKind) → TellsOnce seen kind

-- in a history in place the start is given only at the first cut, the one that no events precede
abbrev pub StartsOnce : Type 0
StartsOnce =
    (passed between : List Event) (cut : Event) → InPlace (passed ++ (between ++ cut ∷ [])) → ¬ IsTrue (is_start cut)
    → (length passed ≡ 0 → length (jobs_by start_job between) ≡ 1)
    × (0 < length passed → jobs_by start_job between ≡ [])
