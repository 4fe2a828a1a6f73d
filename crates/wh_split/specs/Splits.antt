-- Which cut of a history comes next, and which is live.
use Rattle.std.specs.Prelude.{◌≡◌, ℕ, ◌-◌, Bool, false, ◌&&◌, List, [], ◌∷◌, drop, Option, Some, None, if◌then◌else◌, nat_lt, is_none, slice_get}
use Rattle.wh_events.specs.declared.event.Event.{Event}
use Rattle.wh_events.specs.Cuts.{is_task_started, next_core, cuts}
use Rattle.wh_events.specs.InPlace.{IsAt}

-- event i has number i
abbrev pub IsNumbered : List Event → Type 0
IsNumbered events = (place : ℕ) (event : Event) → IsAt events place event → event.number ≡ place

-- the first of the numbers
abbrev pub first_of : List ℕ → Option ℕ
first_of [] = None
first_of (number ∷ _) = Some number

-- the first of the numbers that is above another
abbrev pub first_after : ℕ → List ℕ → Option ℕ
first_after from [] = None
first_after from (number ∷ rest) = if nat_lt from number then Some number else first_after from rest

-- the first cut after a number
abbrev pub next_cut : List Event → ℕ → Option ℕ
next_cut events from = first_after from (cuts events)

-- there is an event, it starts a task, and the rest has only inert events
abbrev pub is_live_before : Option Event → List Event → Bool
is_live_before None rest = false
is_live_before (Some event) rest = is_task_started event && is_none (next_core rest)

-- the event at the place starts a task, and only inert events follow it
abbrev pub is_live : List Event → ℕ → Bool
is_live events place = is_live_before (slice_get events (place - 1)) (drop place events)
