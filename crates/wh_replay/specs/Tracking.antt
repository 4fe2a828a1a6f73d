-- Events that are appended one after another, up to the first one that is not in place.
use Rattle.std.specs.Prelude.{◌≡◌, ℕ, ◌+◌, length, List, ◌++◌, Option, Some, None, Result, Ok, Err}
use Rattle.wh_events.specs.declared.event.Event.{Event}
use Rattle.wh_events.specs.declared.place.PlaceFault.{PlaceFault}
use Rattle.wh_events.specs.Places.{fault_after}
use Rattle.wh_machines.specs.declared.fault.PushFault.{PushFault}
use Rattle.wh_machines.specs.declared.fault.PushFault.TheVariants.{Place, OutOfMemory}
use Rattle.wh_replay.specs.declared.fault.Fault.{Fault}
use Rattle.wh_replay.specs.declared.fault.Fault.TheVariants.{Place as PlaceFaulty}

-- the events, unless one of them has this fault
abbrev pub in_place : Option (ℕ × PlaceFault) → List Event → Result (List Event) Fault
in_place None events = Ok events
in_place (Some fault) events = Err (PlaceFaulty fault.0 fault.1)

-- the events with the new ones after them, or the first fault of the places of the new ones
abbrev pub joined : List Event → List Event → Result (List Event) Fault
joined before new = in_place (fault_after before new) (before ++ new)

-- all new events are appended, or those before the first one that is not in place
abbrev pub Takes : {A : Type 0} → List Event → List Event → List Event → Result A PushFault → Type 0
Takes before new after (Ok _) = (fault_after before new ≡ None) × (after ≡ before ++ new)
Takes before new after (Err (Place fault)) = fault_after before new ≡ Some (length after + 1, fault)
Takes before new after (Err OutOfMemory) = Unit {0}
