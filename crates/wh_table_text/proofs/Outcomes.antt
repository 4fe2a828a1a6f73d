-- The rows of a table are read one after another, each with its number, up to the first fault.
use Rattle.std.proofs.Common.{◌≡◌, ℕ, ◌<◌, ◌≤◌, ◌+◌, List, [], ◌∷◌, ◌++◌, length, get_or, drop, ap, subst, sym, ◌∙◌, append-nil, Ok}
use Rattle.std.specs.Prelude.{map}
use Rattle.serde_json.specs.Data.{Data}
use Rattle.serde_json.specs.View.{view}
use Rattle.serde_json.specs.declared.value.Value.{Value}
use Rattle.wh_row_rules.specs.declared.or_memory.OrMemory.{OrMemory}
use Rattle.wh_row_rules.specs.Outcome.{all_of, StopsAt}
use Rattle.wh_row_rules.proofs.Outcomes.{with_front, front_step, front_stops, from_place, none_left}
use Rattle.wh_rows.specs.Tables.{Row}
use Rattle.wh_table_text.specs.declared.fault.TableFault.{TableFault}
use Rattle.wh_table_text.specs.declared.counters.NamedCounter.{NamedCounter}
use Rattle.wh_table_text.specs.Reading.{row_at, rows_from}

row_step : (names : List NamedCounter) (front : List Row) (at : ℕ) (d : Data) (ds : List Data) (row : Row) → row_at names at d ≡ Ok row
    → with_front front (all_of (rows_from names at (d ∷ ds))) ≡ with_front (front ++ row ∷ []) (all_of (rows_from names (at + 1) ds))
unfolding rows_from
row_step names front at d ds row is = front_step front (row_at names at d) row (rows_from names (at + 1) ds) is

pub row_on : (names : List NamedCounter) (front : List Row) (vs : List Value) (i : ℕ) (v : Value) (row : Row) → i < length vs → v ≡ get_or vs i v
    → row_at names (i + 1) (view v) ≡ Ok row
    → with_front front (all_of (rows_from names (i + 1) (map view (drop i vs)))) ≡ with_front (front ++ row ∷ []) (all_of (rows_from names (i + 1 + 1) (map view (drop (i + 1) vs))))
row_on names front vs i v row below is gives =
    ap (λ ds. with_front front (all_of (rows_from names (i + 1) ds))) (from_place view vs i v below)
    ∙ row_step names front (i + 1) (view (get_or vs i v)) (map view (drop (i + 1) vs)) row
    (subst (λ w. row_at names (i + 1) (view w) ≡ Ok row) is gives)

row_stop : (names : List NamedCounter) (front : List Row) (at : ℕ) (d : Data) (ds : List Data) (fault : OrMemory TableFault)
    → StopsAt fault (row_at names at d) → StopsAt fault (with_front front (all_of (rows_from names at (d ∷ ds))))
unfolding rows_from
row_stop names front at d ds fault stops = front_stops front (row_at names at d) (rows_from names (at + 1) ds) fault stops

-- the first value that is not a row stops the table
pub row_stops : (names : List NamedCounter) (front : List Row) (vs : List Value) (i : ℕ) (v : Value) (fault : OrMemory TableFault)
    → i < length vs → v ≡ get_or vs i v → StopsAt fault (row_at names (i + 1) (view v))
    → StopsAt fault (with_front front (all_of (rows_from names (i + 1) (map view (drop i vs)))))
row_stops names front vs i v fault below is stops =
    subst (λ ds. StopsAt fault (with_front front (all_of (rows_from names (i + 1) ds)))) (sym (from_place view vs i v below))
    (row_stop names front (i + 1) (view (get_or vs i v)) (map view (drop (i + 1) vs)) fault
    (subst (λ w. StopsAt fault (row_at names (i + 1) (view w))) is stops))

rows_end : (names : List NamedCounter) (front : List Row) (at : ℕ) → with_front front (all_of (rows_from names at [])) ≡ Ok front
unfolding rows_from
rows_end names front at = ap Ok (append-nil front)

pub rows_all : (names : List NamedCounter) (front : List Row) (vs : List Value) (i : ℕ) → length vs ≤ i
    → with_front front (all_of (rows_from names (i + 1) (map view (drop i vs)))) ≡ Ok front
rows_all names front vs i past =
    ap (λ ds. with_front front (all_of (rows_from names (i + 1) ds))) (none_left view vs i past) ∙ rows_end names front (i + 1)
