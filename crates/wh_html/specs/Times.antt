-- Times and spans of time, as text.
use Rattle.std.specs.Prelude.{ℕ, ◌+◌, ◌-◌, ◌*◌, ◌/◌, ◌%◌, ◌==◌, nat_lt, min, if◌then◌else◌, List, [], ◌∷◌, ◌++◌, codes, decimal}

-- the end of the year 9999, in milliseconds from 1970-01-01T00:00:00Z
abbrev pub last_time : ℕ
last_time = 253_402_300_799_999

-- a number below 100, as two digits
abbrev pub two : ℕ → List ℕ
two n = decimal (n / 10) ++ decimal (n % 10)

-- The civil calendar, by years that begin in March, so that a leap day is the last of its year. Days
-- are counted from the first of March of the year 0, which is 719,468 days before 1970-01-01; an era
-- is 400 years, or 146,097 days.
abbrev pub since_march : (day : ℕ) → ℕ
since_march day = day + 719_468

-- the whole years before a day of an era
abbrev pub years_before : ℕ → ℕ
years_before day = (day + day / 36_524 - (day / 1_460 + day / 146_096)) / 365

-- the day of its year, from 0
abbrev pub day_of_year : ℕ → ℕ
day_of_year day = day + years_before day / 100 - (365 * years_before day + years_before day / 4)

-- the months of its year before it, from March on
abbrev pub months_before : ℕ → ℕ
months_before day = (5 * day_of_year day + 2) / 153

-- the day of the month, the month and the year of a day, counted from 1970-01-01
abbrev pub day_of : ℕ → ℕ
day_of day =
    let in_era = since_march day % 146_097 in day_of_year in_era + 1 - (153 * months_before in_era + 2) / 5

abbrev pub month_of : ℕ → ℕ
month_of day =
    let months = months_before (since_march day % 146_097) in if nat_lt months 10 then months + 3 else months - 9

abbrev pub year_of : ℕ → ℕ
year_of day =
    let in_era = since_march day % 146_097 in
    let year = since_march day / 146_097 * 400 + years_before in_era in
    if nat_lt (months_before in_era) 10 then year else year + 1

-- the fraction of a second in milliseconds; nothing if it is 0
abbrev pub fraction_text : ℕ → List ℕ
fraction_text millis = if millis == 0 then [] else codes "." ++ (two (millis / 10) ++ decimal (millis % 10))

-- the time of day
unfoldable pub clock_text : (millis : ℕ) → List ℕ
clock_text millis =
    two (millis / 3_600_000 % 24) ++ (codes ":" ++ (two (millis / 60_000 % 60) ++ (codes ":"
    ++ (two (millis / 1_000 % 60) ++ fraction_text (millis % 1_000)))))

-- an instant of the years up to 9999, in UTC, as the JSON of histories has times
unfoldable pub instant_text : (millis : ℕ) → List ℕ
instant_text millis =
    let day = millis / 86_400_000 in
    decimal (year_of day)
    ++ (codes "-" ++ (two (month_of day) ++ (codes "-" ++ (two (day_of day) ++ (codes "T" ++ (clock_text millis ++ codes "Z"))))))

-- a time in milliseconds from 1970-01-01T00:00:00Z, in UTC; a time after the year 9999 as the end of that year
abbrev pub stamp_text : (millis : ℕ) → List ℕ
stamp_text millis = instant_text (min millis last_time)

-- a span of time by two units, the smaller one only if there are some of it
abbrev pub pair_text : ℕ → List ℕ → ℕ → List ℕ → List ℕ
pair_text large unit small part =
    if small == 0 then decimal large ++ (codes " " ++ unit)
    else decimal large ++ (codes " " ++ (unit ++ (codes " " ++ (decimal small ++ (codes " " ++ part)))))

-- a span of time below ten seconds, in milliseconds
abbrev pub brief_text : ℕ → List ℕ
brief_text millis =
    if nat_lt millis 100 then decimal millis ++ codes " ms"
    else decimal (millis / 1_000) ++ (codes "." ++ (decimal (millis % 1_000 / 100) ++ codes " s"))

-- a span of a minute or more, in seconds, by its two largest units
abbrev pub units_text : ℕ → List ℕ
units_text seconds =
    if nat_lt seconds 3_600 then pair_text (seconds / 60) (codes "min") (seconds % 60) (codes "s")
    else (if nat_lt seconds 86_400 then pair_text (seconds / 3_600) (codes "h") (seconds / 60 % 60) (codes "min")
    else pair_text (seconds / 86_400) (codes "d") (seconds / 3_600 % 24) (codes "h"))

-- a span of ten seconds or more, in seconds
abbrev pub long_text : ℕ → List ℕ
long_text seconds = if nat_lt seconds 60 then decimal seconds ++ codes " s" else units_text seconds

-- a span of time in milliseconds, rounded down to what is shown
unfoldable pub span_text : (millis : ℕ) → List ℕ
span_text millis = if nat_lt millis 10_000 then brief_text millis else long_text (millis / 1_000)
