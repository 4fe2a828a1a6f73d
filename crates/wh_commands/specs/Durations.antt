-- How durations are written.
use Rattle.std.specs.Prelude.{ℕ, List, ◌++◌, codes, decimal, ◌==◌, if◌then◌else◌}

-- the longest duration of protobuf, in seconds
abbrev pub longest_duration : ℕ
longest_duration = 315576000000

-- the text of a duration of whole seconds
abbrev pub duration_text : ℕ → List ℕ
duration_text seconds = decimal seconds ++ codes "s"

-- the time after which a timer fires; one of 0 seconds fires after a millisecond
abbrev pub delay_text : ℕ → List ℕ
delay_text seconds = if seconds == 0 then codes "0.001s" else duration_text seconds
