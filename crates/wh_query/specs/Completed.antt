-- The part of a fetched history that its completed tasks cover.
use Rattle.std.specs.Prelude.{◌≡◌, Bool, ◌&&◌, ◌||◌, not, ℕ, List, [], ◌∷◌, if◌then◌else◌}
use Rattle.std.specs.List.{list_any}
use Rattle.wh_events.specs.declared.event.Event.{Event}
use Rattle.wh_events.specs.Cuts.{is_cut, is_recorded, is_task_completed, is_task_started, cuts}

-- a task starts with the event, and no task is completed after it
abbrev pub starts_last : Event → List Event → Bool
starts_last event rest = is_task_started event && not (list_any is_task_completed rest)

-- the events before the first started task after which no task is completed
abbrev pub completed_part : List Event → List Event
completed_part [] = []
completed_part (event ∷ rest) = if starts_last event rest then [] else event ∷ completed_part rest

-- an event is part of it by what is known so far: a completed task, or any event but a started task if all before it
-- are part of it
abbrev pub extends : Event → Bool → Bool
extends event is_whole = is_task_completed event || (is_whole && not (is_task_started event))

-- the numbers of the cuts whose task is completed
abbrev pub completed_cuts : List Event → List ℕ
completed_cuts [] = []
completed_cuts (event ∷ rest) =
    if is_cut event rest && is_recorded rest then event.number ∷ completed_cuts rest else completed_cuts rest

-- ---- Laws

-- the completed part has each completed task, and no other
abbrev pub HasCompletedTasks : Type 0
HasCompletedTasks = (events : List Event) → cuts (completed_part events) ≡ completed_cuts events
