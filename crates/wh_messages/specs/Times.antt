-- Times in responses, in milliseconds. Points in time are texts in the form of RFC 3339, read by `jiff`, and durations
-- are texts as proto3 JSON writes them, such as `1.500s`.
use Rattle.std.specs.Prelude.{◌≡◌, ℕ, pos, List, [], ◌∷◌, codes, Option, Some, None, int_div, nat_eq, option_and_then, if◌then◌else◌}
use Rattle.serde_json.specs.Data.{Data, string}
use Rattle.serde_json.specs.Find.{as_str}
use Rattle.wh_commands.specs.Objects.{object_of}
use Rattle.wh_tasks.specs.Infos.{no_times}
use Rattle.wh_tasks.specs.declared.activity_info.ActivityTimes.{ActivityTimes}
use Rattle.wh_json.specs.Fields.{field, natural, time_of}
use Rattle.wh_times.specs.Durations.{duration_in}

-- a point in time, rounded down; one before 1970 is not told
abbrev pub instant_of : List ℕ → Option ℕ
instant_of text = option_and_then (λ nanoseconds. natural (int_div nanoseconds (pos 1_000_000))) (time_of text)

-- the text that a member is
abbrev pub text_at : List ℕ → Data → Option (List ℕ)
text_at name d = option_and_then as_str (field name (Some d))

-- the point in time that a member is
abbrev pub instant_at : List ℕ → Data → Option ℕ
instant_at name d = option_and_then instant_of (text_at name d)

-- the length of time that a member is
abbrev pub duration_at : List ℕ → Data → Option ℕ
duration_at name d = option_and_then duration_in (text_at name d)

-- a timeout, unless it is 0, as a server writes one that is not set
abbrev pub unless_zero : ℕ → Option ℕ
unless_zero timeout = if nat_eq timeout 0 then None else Some timeout

-- the timeout that a member is
abbrev pub timeout_at : List ℕ → Data → Option ℕ
timeout_at name d = option_and_then unless_zero (duration_at name d)

-- the times of an activity task, as far as the response to a poll tells them
abbrev pub times_in : Data → ActivityTimes
times_in d = record {
  scheduled = instant_at (codes "scheduledTime") d;
  attempt_scheduled = instant_at (codes "currentAttemptScheduledTime") d;
  started = instant_at (codes "startedTime") d;
  heartbeat_timeout = timeout_at (codes "heartbeatTimeout") d;
  start_to_close = timeout_at (codes "startToCloseTimeout") d;
  schedule_to_close = timeout_at (codes "scheduleToCloseTimeout") d;
}

-- ---- Law

-- the times of an activity task as a server writes them, each a text
abbrev pub times_result : (scheduled attempt_scheduled started heartbeat start_to_close schedule_to_close : List ℕ)
    → Data
times_result scheduled attempt_scheduled started heartbeat start_to_close schedule_to_close = object_of (
    (codes "scheduledTime", string scheduled) ∷ (codes "currentAttemptScheduledTime", string attempt_scheduled)
    ∷ (codes "startedTime", string started) ∷ (codes "heartbeatTimeout", string heartbeat)
    ∷ (codes "startToCloseTimeout", string start_to_close) ∷ (codes "scheduleToCloseTimeout", string schedule_to_close)
    ∷ [])

-- each time is read from the member that is its own, and is not told if there is none; a timeout is read in
-- milliseconds, rounded down, up to the longest one, and one that is not set or negative is none
pub record TimesAreRead : Type 0 where
  pub named : (scheduled attempt_scheduled started heartbeat start_to_close schedule_to_close : List ℕ)
      → times_in (times_result scheduled attempt_scheduled started heartbeat start_to_close schedule_to_close)
      ≡ record {
        scheduled = instant_of scheduled;
        attempt_scheduled = instant_of attempt_scheduled;
        started = instant_of started;
        heartbeat_timeout = option_and_then unless_zero (duration_in heartbeat);
        start_to_close = option_and_then unless_zero (duration_in start_to_close);
        schedule_to_close = option_and_then unless_zero (duration_in schedule_to_close);
      }
  pub absent : times_in (object_of []) ≡ no_times
  pub unset : option_and_then unless_zero (duration_in (codes "0s")) ≡ None
  pub seconds : option_and_then unless_zero (duration_in (codes "90s")) ≡ Some 90_000
  pub longest : duration_in (codes "315576000000s") ≡ Some 315_576_000_000_000
  pub longer : duration_in (codes "315576000001s") ≡ None
  pub milliseconds : duration_in (codes "1.500s") ≡ Some 1_500
  pub microseconds : duration_in (codes "0.001999s") ≡ Some 1
  pub nanoseconds : duration_in (codes "2.000999999s") ≡ Some 2_000
  pub negative : duration_in (codes "-1s") ≡ None
