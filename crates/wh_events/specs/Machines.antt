-- The things that a history opens, and the status of each.
use Rattle.std.specs.Prelude.{ℕ, ◌-◌, Bool, true, false, ◌&&◌, ◌||◌, List, [], ◌∷◌, ◌++◌, Option, Some, None, if◌then◌else◌, eqb, bytes_eq, is_none, is_some, slice_get}
use Rattle.wh_events.specs.declared.event.Event.{Event}
use Rattle.wh_events.specs.declared.place.Status.{Status}
use Rattle.wh_events.specs.declared.place.Status.TheVariants.{Open, Started, Cancelling, Closed}
use Rattle.wh_events.specs.Kinds.{Role, role_of}
use Rattle.wh_events.specs.declared.place.Thing.{Thing}
use Rattle.wh_events.specs.declared.place.Thing.TheVariants.{Activity, Timer, Child, CancelRequest, SignalRequest}
use Rattle.wh_events.specs.declared.kind.Effect.TheVariants.{Starts, Cancels, Closes}
use Rattle.wh_events.specs.Kinds.Role.{Opens, Refers, CancelsChild, Plain}

-- both are the same kind of thing
abbrev pub same_thing : Thing → Thing → Bool
same_thing Activity Activity = true
same_thing Timer Timer = true
same_thing Child Child = true
same_thing CancelRequest CancelRequest = true
same_thing SignalRequest SignalRequest = true
same_thing _ _ = false

-- the kind of thing that an event of the role opens, if any
abbrev pub opened_thing : Role → Option Thing
opened_thing (Opens thing _) = Some thing
opened_thing (CancelsChild _) = Some CancelRequest
opened_thing _ = None

-- the id under which an event of the role opens a thing
abbrev pub opened_id : Role → List ℕ
opened_id (Opens _ id) = id
opened_id (CancelsChild workflow_id) = workflow_id
opened_id _ = []

-- an event of the role opens a thing of the kind under the id
abbrev pub opens_under : Thing → List ℕ → Role → Bool
opens_under thing id (Opens other other_id) = same_thing thing other && bytes_eq id other_id
opens_under _ _ _ = false

-- an event of the role closes what the event of the number opened
abbrev pub closes_number : ℕ → Role → Bool
closes_number number (Refers _ other Closes) = eqb number other
closes_number _ _ = false

-- an event of the role says that what the event of the number opened has started
abbrev pub starts_number : ℕ → Role → Bool
starts_number number (Refers _ other Starts) = eqb number other
starts_number _ _ = false

-- the event opens a thing of the kind under the id
abbrev pub opens : Thing → List ℕ → Event → Bool
opens thing id event = opens_under thing id (role_of event.body)

-- the event closes what the event of the number opened
abbrev pub closes : ℕ → Event → Bool
closes number event = closes_number number (role_of event.body)

-- the event says that what the event of the number opened has started
abbrev pub starts : ℕ → Event → Bool
starts number event = starts_number number (role_of event.body)

-- the number of the first event that closes what the event of the number opened
abbrev pub closed_by : ℕ → List Event → Option ℕ
closed_by number [] = None
closed_by number (event ∷ rest) = if closes number event then Some event.number else closed_by number rest

-- none of the events closes what the event of the number opened
abbrev pub is_open : List Event → ℕ → Bool
is_open events number = is_none (closed_by number events)

-- the number of the first of these events that opens a thing of the kind under the id and that no event of the history
-- closes
abbrev pub open_among : List Event → Thing → List ℕ → List Event → Option ℕ
open_among events thing id [] = None
open_among events thing id (event ∷ rest) =
    if opens thing id event && is_open events event.number then Some event.number else open_among events thing id rest

-- the number of the event that opened the open thing of a kind and an id
abbrev pub open_named : List Event → Thing → List ℕ → Option ℕ
open_named events thing id = open_among events thing id events

-- the first if there is one, else the second
abbrev pub or_else : {A : Type 0} → Option A → Option A → Option A
or_else None other = other
or_else (Some x) other = Some x

-- the number of the last event that opens a thing of the kind under the id
abbrev pub last_named : List Event → Thing → List ℕ → Option ℕ
last_named [] thing id = None
last_named (event ∷ rest) thing id =
    or_else (last_named rest thing id) (if opens thing id event then Some event.number else None)

-- there is a number, and it is this one
abbrev pub is_number : ℕ → Option ℕ → Bool
is_number number None = false
is_number number (Some other) = eqb number other

-- an event of the role, after those before it, asks for what the event of the number opened to be canceled:
-- by its number, or as the open child of a workflow id
abbrev pub cancels_number : List Event → ℕ → Role → Bool
cancels_number before number (Refers _ other Cancels) = eqb number other
cancels_number before number (CancelsChild workflow_id) = is_number number (open_named before Child workflow_id)
cancels_number before number _ = false

-- one of the events, the first of which follows those before, asks for the thing to be canceled
abbrev pub canceled_after : List Event → ℕ → List Event → Bool
canceled_after before number [] = false
canceled_after before number (event ∷ rest) =
    cancels_number before number (role_of event.body) || canceled_after (before ++ event ∷ []) number rest

-- one of the events asks for what the event of the number opened to be canceled
abbrev pub is_cancelling : List Event → ℕ → Bool
is_cancelling events number = canceled_after [] number events

-- one of the events says that what the event of the number opened has started
abbrev pub is_started : List Event → ℕ → Bool
is_started [] number = false
is_started (event ∷ rest) number = starts number event || is_started rest number

-- the status: closed by the event that closes it, else cancelling, else started, else open
abbrev pub status_by : Option ℕ → Bool → Bool → Status
status_by (Some by) cancelling started = Closed by
status_by None true started = Cancelling
status_by None false true = Started
status_by None false false = Open

-- the status of what the event of the number opened, by the events that refer to it alone
abbrev pub status_of : List Event → ℕ → Status
status_of events number = status_by (closed_by number events) (is_cancelling events number) (is_started events number)

-- what the event does, if there is one
abbrev pub role_in : Option Event → Role
role_in None = Plain
role_in (Some event) = role_of event.body

-- what the event at the place of that number does, if there is one
abbrev pub role_at : List Event → ℕ → Role
role_at events number = role_in (slice_get events (number - 1))

-- the status of what the event of the number opened, if there is such an event and it opened anything
abbrev pub status_at : List Event → ℕ → Option Status
status_at events number =
    if is_some (opened_thing (role_at events number)) then Some (status_of events number) else None

-- a thing of a history: the number of the event that opened it, and its status
pub record Machine : Type 0 where
  pub number : ℕ
  pub status : Status

-- the things of a history that these of its events opened
abbrev pub machines_among : List Event → List Event → List Machine
machines_among events [] = []
machines_among events (event ∷ rest) =
    if is_some (opened_thing (role_of event.body))
    then record { number = event.number; status = status_of events event.number } ∷ machines_among events rest
    else machines_among events rest

-- the things of a history: the number of each opening event and its status, in order
abbrev pub machines_of : List Event → List Machine
machines_of events = machines_among events events
