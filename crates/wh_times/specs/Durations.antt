-- Lengths of time, in milliseconds, as proto3 JSON writes durations: `1.500s`.
use Rattle.std.specs.Prelude.{ℕ, ◌+◌, ◌*◌, ◌/◌, ◌&&◌, List, length, Option, Some, None, nat_eq, nat_le, nat_lt, option_and_then, option_map, if◌then◌else◌}
use Rattle.std.specs.List.{after_first, before_first}
use Rattle.wh_json.specs.Fields.{number_in}

-- what stands before the unit
abbrev pub before_unit : List ℕ → List ℕ
before_unit text = before_first (λ byte. nat_eq byte 115) text

-- what stands before the point of a number
abbrev pub whole_part : List ℕ → List ℕ
whole_part digits = before_first (λ byte. nat_eq byte 46) digits

-- what stands after it
abbrev pub fraction : List ℕ → List ℕ
fraction digits = after_first (λ byte. nat_eq byte 46) digits

-- the thousandths of a fraction, rounded down; it has no digits, or 3, 6 or 9
abbrev pub thousandths : List ℕ → Option ℕ
thousandths digits = if nat_eq (length digits) 0 then Some 0
    else (if nat_eq (length digits) 3 then number_in digits
    else (if nat_eq (length digits) 6 then option_map (λ millionths. millionths / 1_000) (number_in digits)
    else (if nat_eq (length digits) 9 then option_map (λ billionths. billionths / 1_000_000) (number_in digits)
    else None)))

-- so many seconds and thousandths; a duration has at most 315,576,000,000 seconds
abbrev pub in_milliseconds : ℕ → ℕ → Option ℕ
in_milliseconds seconds parts =
    if nat_le seconds 315_576_000_000 && nat_lt parts 1_000 then Some (seconds * 1_000 + parts) else None

-- a length of time, rounded down
abbrev pub duration_in : List ℕ → Option ℕ
duration_in text =
    option_and_then (λ seconds. option_and_then (in_milliseconds seconds) (thousandths (fraction (before_unit text))))
    (number_in (whole_part (before_unit text)))
