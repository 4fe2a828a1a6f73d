-- Decimal numbers.
use Rattle.std.specs.Prelude.{ℕ, ℤ, pos, negsuc, List, bytes_eq, codes, nat_lt, Option, Some, None, option_and_then, if◌then◌else◌}
use Rattle.wh_json.specs.Fields.{number_in}

-- the number, if it is below `end`
abbrev pub below : ℕ → Option ℕ → Option ℕ
below end number = option_and_then (λ n. if nat_lt n end then Some n else None) number

-- the seconds of a timer: at most the 315,576,000,000 of a Protocol Buffers duration
abbrev pub seconds_in : List ℕ → Option ℕ
seconds_in text = below 315576000001 (number_in text)

-- a number below 2^31
abbrev pub small : ℕ → Option ℤ
small n = if nat_lt n 2147483648 then Some (pos n) else None

-- the number of a version: -1, or 0 to 2^31 - 1
abbrev pub version_in : List ℕ → Option ℤ
version_in text = if bytes_eq text (codes "-1") then Some (negsuc 0) else option_and_then small (number_in text)
