-- Where commands first differ from a record, stated by their places.
use Rattle.std.specs.Prelude.{◌≡◌, ℕ, ◌+◌, ◌<◌, ◌↔◌, List, length, take, Some, None, IsTrue, slice_get}
use Rattle.wh_events.specs.declared.event.Event.{Event}
use Rattle.wh_workflow.specs.declared.command.Command.{Command}
use Rattle.wh_workflow.specs.declared.fault.Mismatch.{Mismatch}
use Rattle.wh_workflow.specs.declared.fault.Mismatch.TheVariants.{Different, CommandMissing, CommandExtra}
use Rattle.wh_workflow.specs.Names.{names, mismatch}

-- each command and the event with the same place are named alike
abbrev pub AreNamedAlike : List Event → List Command → List Event → Type 0
AreNamedAlike history commands events =
    (i : ℕ) (command : Command) (event : Event) → slice_get commands i ≡ Some command → slice_get events i ≡ Some event
    → IsTrue (names history command event.body)

-- commands match a record: both are equally long, and each pair is named alike
pub record IsMatch (history : List Event) (commands : List Command) (events : List Event) : Type 0 where
  pub equally_long : length commands ≡ length events
  pub alike : AreNamedAlike history commands events

-- the difference is the first: the commands and events before it are named alike, and there a pair is not, or an event
-- has no command, or a command, counted from 1, has no event
abbrev pub IsFirstDifference : List Event → List Command → List Event → Mismatch → Type 0
IsFirstDifference history commands events (Different number) =
    (i : ℕ) × (command : Command) × (event : Event) × (slice_get commands i ≡ Some command)
    × (slice_get events i ≡ Some event) × (event.number ≡ number)
    × (¬ IsTrue (names history command event.body)) × AreNamedAlike history (take i commands) (take i events)
IsFirstDifference history commands events (CommandMissing number) =
    (event : Event) × (slice_get events (length commands) ≡ Some event) × (event.number ≡ number)
    × AreNamedAlike history commands events
IsFirstDifference history commands events (CommandExtra index) =
    (index ≡ length events + 1) × (length events < length commands) × AreNamedAlike history commands events

-- commands have no mismatch exactly when they match; else the mismatch is the first difference
abbrev pub FirstDifferenceDecides : Type 0
FirstDifferenceDecides = (history : List Event) (commands : List Command) (events : List Event)
    → ((mismatch history commands events ≡ None) ↔ IsMatch history commands events)
    × ((difference : Mismatch) → (mismatch history commands events ≡ Some difference)
    ↔ IsFirstDifference history commands events difference)
