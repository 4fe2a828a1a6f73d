-- What is kept of each thing that a history opens, by its events.
use Rattle.std.specs.Prelude.{ℕ, ◌-◌, Bool, List, [], ◌∷◌, ◌++◌, take, Option, Some, None, if◌then◌else◌, eqb, leb, is_some}
use Rattle.wh_events.specs.declared.event.Event.{Event}
use Rattle.wh_events.specs.declared.place.Status.{Status}
use Rattle.wh_events.specs.declared.place.Thing.{Thing}
use Rattle.wh_events.specs.Kinds.{Role}
use Rattle.wh_events.specs.Kinds.Role.{Opens, CancelsChild}
use Rattle.wh_events.specs.Kinds.{role_of}
use Rattle.wh_events.specs.Machines.{closes, starts, cancels_number, role_at, last_named, status_by}
use Rattle.wh_events.specs.Places.{is_named}
use Rattle.wh_machines.specs.declared.opening.Opening.{Opening}

-- the number of the first of the events that passes the test, which also reads the events before it
abbrev pub first_by : (List Event → Event → Bool) → List Event → List Event → Option ℕ
first_by test before [] = None
first_by test before (event ∷ rest) =
    if test before event then Some event.number else first_by test (before ++ event ∷ []) rest

-- the event closes what the event of the number opened
abbrev pub closes_test : ℕ → List Event → Event → Bool
closes_test number before event = closes number event

-- the event starts what the event of the number opened
abbrev pub starts_test : ℕ → List Event → Event → Bool
starts_test number before event = starts number event

-- the event asks for what the event of the number opened to be canceled
abbrev pub cancels_test : ℕ → List Event → Event → Bool
cancels_test number before event = cancels_number before number (role_of event.body)

-- the last thing of the kind under the id, for the kinds whose ids are kept
abbrev pub named_of : List Event → Thing → List ℕ → Option ℕ
named_of events thing id = if is_named thing then last_named events thing id else None

-- the opening of a number, with the first event of each effect and the opening before it
abbrev pub opening_with : List Event → ℕ → Option ℕ → Opening
opening_with events number previous = record {
  number = number;
  started = first_by (starts_test number) [] events;
  cancelling = first_by (cancels_test number) [] events;
  closed = first_by (closes_test number) [] events;
  previous = previous;
}

-- the opening by an event of this role, if the event opens something
abbrev pub opened_by : List Event → ℕ → Role → Option Opening
opened_by events number (Opens thing id) =
    Some (opening_with events number (named_of (take (number - 1) events) thing id))
opened_by events number (CancelsChild workflow_id) = Some (opening_with events number None)
opened_by events number _ = None

-- what the events say of the thing that the event of the number opened, if it opened one
abbrev pub opening_of : List Event → ℕ → Option Opening
opening_of events number = if eqb number 0 then None else opened_by events number (role_at events number)

-- the number, if it is not past the place
abbrev pub up_to : ℕ → Option ℕ → Option ℕ
up_to place None = None
up_to place (Some number) = if leb number place then Some number else None

-- the status of the thing after the event at the place
abbrev pub status_up_to : ℕ → Opening → Status
status_up_to place opening =
    status_by (up_to place opening.closed) (is_some (up_to place opening.cancelling))
    (is_some (up_to place opening.started))
