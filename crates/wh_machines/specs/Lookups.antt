-- What a track answers about its events.
use Rattle.std.specs.Prelude.{ℕ, ◌-◌, List, take, drop, Option, Some, None}
use Rattle.wh_events.specs.declared.event.Event.{Event}
use Rattle.wh_events.specs.declared.place.Status.{Status}
use Rattle.wh_events.specs.declared.place.Thing.{Thing}
pub use Rattle.wh_events.specs.Kinds.{thing_of}
use Rattle.wh_events.specs.Machines.{last_named, status_of}

-- the number, and the status in which the events leave what its event opened
abbrev pub with_status : List Event → Option ℕ → Option (ℕ × Status)
with_status events None = None
with_status events (Some number) = Some (number, status_of events number)

-- the last thing of a kind under an id that one of these events opened, and the status in which they leave it
abbrev pub last_of : List Event → Thing → List ℕ → Option (ℕ × Status)
last_of events thing id = with_status events (last_named events thing id)

-- the last thing of a kind under an id among the events up to a place, and its status there
abbrev pub last_at : List Event → Thing → List ℕ → ℕ → Option (ℕ × Status)
last_at events thing id place = last_of (take place events) thing id

-- the events strictly between two numbers
abbrev pub events_between : List Event → ℕ → ℕ → List Event
events_between events from to = drop from (take (to - 1) events)
