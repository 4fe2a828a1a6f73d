-- What one condition or one row asks of counters.
use Rattle.std.specs.Prelude.{ℕ, Bool, ◌&&◌, leb, ltb, max}
use Rattle.wh_rows.specs.declared.row.Counters.{Counters}
use Rattle.wh_rows.specs.declared.row.Condition.{Condition}
use Rattle.wh_rows.specs.declared.row.Condition.TheVariants as conditions
use Rattle.wh_rows.specs.Rows.{count_of, with_count}
use Rattle.wh_rows.specs.Deciding.{Line, asks_within}

-- the number that is asked for is not past the cut
abbrev pub is_within : Counters → Condition → Bool
is_within tops (conditions.Below counter bound) = leb bound (count_of counter tops)
is_within tops (conditions.AtLeast counter bound) = leb bound (count_of counter tops)

-- the counters with the number that is asked for, if that is greater
abbrev pub asked_by : Condition → Counters → Counters
asked_by (conditions.Below counter bound) tops = with_count counter tops (max (count_of counter tops) bound)
asked_by (conditions.AtLeast counter bound) tops = with_count counter tops (max (count_of counter tops) bound)

-- the state of the row is one of so many, and cut counters tell whether it fits
abbrev pub is_line_within : ℕ → Counters → Line → Bool
is_line_within many tops row = ltb row.state many && asks_within tops row.conditions
