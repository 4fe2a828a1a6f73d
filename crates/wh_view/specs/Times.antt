-- The times of events and things, in milliseconds.
use Rattle.std.specs.Prelude.{ℕ, ◌+◌, ◌-◌, ◌/◌, min, pos, ℤ, int_lt, unsigned_abs, if◌then◌else◌, Option, Some, None, option_map, option_and_then, slice_get}
use Rattle.wh_times.specs.Durations.{duration_in}
use Rattle.wh_view.specs.declared.view.View.{View}
use Rattle.wh_view.specs.declared.view.ViewedEvent.{ViewedEvent}
use Rattle.wh_view.specs.declared.view.ViewedThing.{ViewedThing}

-- the end of the year 9999, in milliseconds from 1970-01-01T00:00:00Z
abbrev pub last_moment : ℕ
last_moment = 253_402_300_799_999

-- a time in nanoseconds from 1970-01-01T00:00:00Z as one in milliseconds: an earlier time as 0, and a time after the
-- year 9999 as the end of that year
abbrev pub millis_of : ℤ → ℕ
millis_of time = if int_lt time (pos 0) then 0 else min (unsigned_abs time / 1_000_000) last_moment

-- when an event happened
abbrev pub moment_of : ViewedEvent → Option ℕ
moment_of event = option_map millis_of event.read.time

-- when the event at an index happened
abbrev pub moment_at : View → Option ℕ → Option ℕ
moment_at view index = option_and_then moment_of (option_and_then (slice_get view.events) index)

-- the time from one moment to another, if both are known; 0 if the other was not later
abbrev pub span_of : Option ℕ → Option ℕ → Option ℕ
span_of from to = option_and_then (λ begin. option_map (λ end. end - begin) to) from

-- the time from the event at one index to that at another
abbrev pub span_between : View → Option ℕ → Option ℕ → Option ℕ
span_between view from to = span_of (moment_at view from) (moment_at view to)

-- the time from the opening of a thing to its start, from that to its end, and from its opening to its end
abbrev pub queue_time : View → ViewedThing → Option ℕ
queue_time view thing = span_between view (Some thing.opened) thing.started

abbrev pub work_time : View → ViewedThing → Option ℕ
work_time view thing = span_between view thing.started thing.ended

abbrev pub whole_time : View → ViewedThing → Option ℕ
whole_time view thing = span_between view (Some thing.opened) thing.ended

-- when a timer that an event starts is due: the duration after the time of the event, but no later than that year
abbrev pub due_time_after : ViewedEvent → Option ℕ
due_time_after event =
    option_and_then (λ begin. option_map (λ length. min (begin + length) last_moment) (duration_in event.duration))
    (moment_of event)

-- when a timer is due
abbrev pub due_time : View → ViewedThing → Option ℕ
due_time view thing = option_and_then due_time_after (slice_get view.events thing.opened)
