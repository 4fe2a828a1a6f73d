-- How far apart the heartbeats of an activity are sent.
use Rattle.std.specs.Prelude.{ℕ, zero, suc, ◌+◌, ◌*◌, ◌/◌, min, max, Bool, true, ◌||◌, Option, Some, None, nat_lt, nat_le}

-- four fifths of the Heartbeat Timeout, at least a millisecond and at most a minute; half a minute without one
abbrev pub interval_of : Option ℕ → ℕ
interval_of None = 30000
interval_of (Some zero) = 30000
interval_of (Some (suc timeout)) = max 1 (min 60000 (suc timeout * 4 / 5))

-- a heartbeat is due unless less than the interval has gone by since the last one, by a clock that has not gone back
abbrev pub is_due : Option ℕ → Option ℕ → ℕ → Bool
is_due None now interval = true
is_due (Some sent) None interval = true
is_due (Some sent) (Some now) interval = nat_lt now sent || nat_le (sent + interval) now
