-- Lengths of time as texts.
use Rattle.std.specs.Prelude.{ℕ, ◌/◌, ◌%◌, List, ◌++◌, codes, decimal}

-- three digits: how many thousandths there are beside whole numbers
abbrev pub thousandths : ℕ → List ℕ
thousandths n = decimal (n / 100 % 10) ++ (decimal (n / 10 % 10) ++ decimal (n % 10))

-- microseconds in milliseconds, as `12.345`
abbrev pub milliseconds_text : (microseconds : ℕ) → List ℕ
milliseconds_text microseconds = decimal (microseconds / 1000) ++ (codes "." ++ thousandths microseconds)

-- microseconds in seconds, as `0.012345`
abbrev pub seconds_text : (microseconds : ℕ) → List ℕ
seconds_text microseconds =
    decimal (microseconds / 1_000_000) ++ (codes "." ++ (thousandths (microseconds / 1000) ++ thousandths microseconds))
