-- The times of the events of a history.
use Rattle.std.specs.Prelude.{ℕ, ◌+◌, ◌-◌, ◌/◌, min, get_or, ℤ, pos, int_lt, unsigned_abs, Bool, true, false, if◌then◌else◌, Option, Some, None, List, [], ◌∷◌, slice_get}
use Rattle.wh_html.specs.Times.{last_time}
use Rattle.wh_json.specs.declared.fault.ReadFault.{ReadFault}
use Rattle.wh_json.specs.declared.fault.ReadFault.TheVariants.{OutOfOrder}
use Rattle.wh_html.specs.declared.page.Moment.{Moment}
use Rattle.wh_view.specs.declared.view.ViewedEvent.{ViewedEvent}
use Rattle.wh_view.specs.Lookups.{index_of}

-- a time in nanoseconds from 1970-01-01T00:00:00Z as one in milliseconds: an earlier time as 0, and a time after the
-- year 9999 as the end of that year
abbrev pub millis_of : ℤ → ℕ
millis_of time = if int_lt time (pos 0) then 0 else min (unsigned_abs time / 1_000_000) last_time

-- the time of an event, or else the other
abbrev pub time_or : ℕ → Option ℤ → ℕ
time_or other None = other
time_or other (Some time) = millis_of time

-- the first time that an event has; 0 if none has one
unfoldable pub first_time : List ViewedEvent → ℕ
first_time [] = 0
first_time (event ∷ events) = time_or (first_time events) event.read.time

-- the times of events; one without a time has that of the event before
unfoldable pub times_from : ℕ → List ViewedEvent → List ℕ
times_from before [] = []
times_from before (event ∷ events) =
    time_or before event.read.time ∷ times_from (time_or before event.read.time) events

-- the times of all events; those before the first event that has a time have the time of that event
abbrev pub times_of : List ViewedEvent → List ℕ
times_of events = times_from (first_time events) events

-- the number of an event, or its place if it has no number
abbrev pub number_or : ℕ → Option ℕ → ℕ
number_or place None = place
number_or place (Some number) = number

-- the number of an event does not follow that of the event before
abbrev pub is_out_of_order : Option ReadFault → Bool
is_out_of_order None = false
is_out_of_order (Some (OutOfOrder at)) = true
is_out_of_order (Some _) = false

-- the number of an event, or its place if it has no number or one that does not follow the number before
abbrev pub number_of : ViewedEvent → ℕ
number_of event =
    if is_out_of_order event.read.fault then event.place else number_or event.place event.read.number

-- an event and its time
abbrev pub moment_of : List ℕ → ViewedEvent → Moment
moment_of times event = record { event = number_of event; millis = get_or times (index_of event) 0 }

-- the moment of no event
abbrev pub no_moment : Moment
no_moment = record { event = 0; millis = 0 }

-- the moment of an event, or that of no event
abbrev pub moment_or : List ℕ → Option ViewedEvent → Moment
moment_or times None = no_moment
moment_or times (Some event) = moment_of times event

-- the event at an index, if there is one
abbrev pub event_at : List ViewedEvent → Option ℕ → Option ViewedEvent
event_at events None = None
event_at events (Some index) = slice_get events index

-- the index of a place that is counted from 1, if there is one
abbrev pub index_at : Option ℕ → Option ℕ
index_at None = None
index_at (Some place) = Some (place - 1)
