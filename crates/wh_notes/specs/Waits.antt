-- How long a worker waits between polls that fail.
use Rattle.std.specs.Prelude.{◌≡◌, ℕ, zero, suc, ◌*◌, ◌^◌, ◌++◌, ◌∷◌, [], List, min}

-- how long it waits, in milliseconds, after one more poll has failed than this many in a row: twice as long each time,
-- and at most ten seconds
abbrev pub wait_after : ℕ → ℕ
wait_after zero = 100
wait_after (suc count) = min (2 * wait_after count) 10000

-- its waits, one after each of this many polls that failed in a row
abbrev pub waits : ℕ → List ℕ
waits zero = []
waits (suc count) = waits count ++ wait_after count ∷ []

-- ---- Laws

-- after the first failed poll a tenth of a second, and after each further one twice as long, up to ten seconds
abbrev pub WaitsDouble : Type 0
WaitsDouble = (count : ℕ) → wait_after count ≡ min (100 * 2 ^ count) 10000
