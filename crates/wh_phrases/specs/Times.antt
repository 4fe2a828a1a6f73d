-- Times as RFC 3339 writes them: in UTC, with 0, 3, 6 or 9 decimal places of a second.
use Rattle.std.specs.Prelude.{ℕ, zero, suc, ◌+◌, ◌-◌, ◌/◌, ◌%◌, ◌==◌, ◌&&◌, nat_lt, Bool, if◌then◌else◌, List, [], ◌∷◌, ◌++◌, codes, Some, ℤ, pos, neg_ℤ, ◌+ℤ◌, int_le, unsigned_abs}
use Rattle.std.specs.Fmt.{signed_decimal}
use Rattle.std.specs.Int.{int_div_euclid, int_rem_euclid}
use Rattle.jiff_core.specs.Calendar.{day_count}
use Rattle.jiff_fmt.specs.Text.{pad2, year_text, fraction_part}

-- the last of up to `left` years after a first one whose first day is not after the given day, counted from the year
-- -10000 on
unfoldable pub year_at : (left : ℕ) → ℤ → ℕ → ℤ
year_at zero year days = year
year_at (suc left) year days =
    if nat_lt days (day_count (year +ℤ pos 1) 1 1) then year else year_at left (year +ℤ pos 1) days

-- the last of up to `left` months after one of the year whose first day is not after that day
unfoldable pub month_at : (left : ℕ) → ℤ → ℕ → ℕ → ℕ
month_at zero year month days = month
month_at (suc left) year month days =
    if nat_lt days (day_count year (month + 1) 1) then month else month_at left year (month + 1) days

-- the year and the month of a day, and its place in the month
abbrev pub year_of : ℕ → ℤ
year_of days = year_at 20_000 (neg_ℤ (pos 9999)) days

abbrev pub month_of : ℕ → ℕ
month_of days = month_at 12 (year_of days) 1 days

abbrev pub day_of : ℕ → ℕ
day_of days = days - day_count (year_of days) (month_of days) 1 + 1

-- the date of a day
abbrev pub date_text : ℕ → List ℕ
date_text days = year_text (year_of days) ++ 45 ∷ [] ++ pad2 (month_of days) ++ 45 ∷ [] ++ pad2 (day_of days)

-- how many decimal places a fraction of so many billionths needs
abbrev pub places_of : ℕ → ℕ
places_of n = if n == 0 then 0 else (if n % 1_000_000 == 0 then 3 else (if n % 1_000 == 0 then 6 else 9))

-- the time of day at so many nanoseconds since midnight
abbrev pub clock_text : ℕ → List ℕ
clock_text n =
    pad2 (n / 3_600_000_000_000) ++ (58 ∷ (pad2 (n / 60_000_000_000 % 60) ++ (58 ∷ (pad2 (n / 1_000_000_000 % 60)
    ++ fraction_part (Some (places_of (n % 1_000_000_000))) (n % 1_000_000_000)))))

-- the days before that of an instant, and the nanoseconds since its midnight
abbrev pub days_before : ℤ → ℕ
days_before time = unsigned_abs (int_div_euclid time (pos 86_400_000_000_000) +ℤ pos 4_371_953)

abbrev pub since_midnight : ℤ → ℕ
since_midnight time = unsigned_abs (int_rem_euclid time (pos 86_400_000_000_000))

-- an instant, in nanoseconds from 1970-01-01T00:00:00Z
unfoldable pub instant_text : ℤ → List ℕ
instant_text time = date_text (days_before time) ++ (84 ∷ (clock_text (since_midnight time) ++ codes "Z"))

-- the instants that `jiff` reads and writes: the years from -9999 to 9999
abbrev pub is_instant : ℤ → Bool
is_instant time =
    int_le (neg_ℤ (pos 377_705_023_201_000_000_000)) time && int_le time (pos 253_402_207_200_999_999_999)

-- a time; one outside these instants as a number of nanoseconds
abbrev pub time_text : ℤ → List ℕ
time_text time = if is_instant time then instant_text time else (signed_decimal time ++ codes " ns")
