-- The counters of a table.
use Rattle.std.specs.Prelude.{ℕ, suc, List, [], ◌∷◌, bytes_eq, nat_eq, Option, Some, None, option_map, slice_get, Result, if◌then◌else◌}
use Rattle.wh_json.specs.Fields.{number_in}
use Rattle.wh_rows.specs.declared.row.Counter.{Counter}
use Rattle.wh_rows.specs.declared.row.Counter.TheVariants as counters
use Rattle.wh_rows.specs.declared.row.Counters.{Counters}
use Rattle.wh_table_text.specs.declared.fault.TableFault.{TableFault}
use Rattle.wh_table_text.specs.declared.fault.TableFault.TheVariants as faults
use Rattle.wh_table_text.specs.declared.counters.NamedCounter.{NamedCounter}
use Rattle.wh_row_rules.specs.Outcome.{or_fault}
use Rattle.wh_table_text.specs.Words.{Words, is_named}

-- the counter at a place, of four
abbrev pub counter_at : ℕ → Option Counter
counter_at place = if nat_eq place 0 then Some counters.A
    else if nat_eq place 1 then Some counters.B
    else if nat_eq place 2 then Some counters.C
    else if nat_eq place 3 then Some counters.D
    else None

-- the counter of this name; the first of the list has this place
abbrev pub named_from : ℕ → List NamedCounter → List ℕ → Option Counter
named_from place [] word = None
named_from place (one ∷ rest) word = if bytes_eq one.name word then counter_at place
    else named_from (suc place) rest word

-- the bound of a counter, 0 if there is none
abbrev pub bound_of : Option NamedCounter → ℕ
bound_of None = 0
bound_of (Some one) = one.bound

-- the bound of the counter at a place
abbrev pub bound_at : ℕ → List NamedCounter → ℕ
bound_at place names = bound_of (slice_get names place)

-- the bound of each counter
abbrev pub bounds_of : List NamedCounter → Counters
bounds_of names = record { a = bound_at 0 names; b = bound_at 1 names; c = bound_at 2 names; d = bound_at 3 names }

-- the counter of a phrase, its name and its bound
abbrev pub counter_of : Words → Result NamedCounter TableFault
counter_of p = or_fault faults.BadCounters
    (if is_named p then option_map (λ bound. record { name = p.verb; bound = bound }) (number_in p.first) else None)
