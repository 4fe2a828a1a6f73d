use Rattle.std.proofs.Common.{◌≡◌, ◌+◌, drop}
use Rattle.std.specs.Prelude.{map}
use Rattle.serde_json.specs.View.{view}
use Rattle.wh_row_rules.specs.Outcome.{all_of}
use Rattle.wh_table_text.specs.Reading.{rows_from}
use Rattle.wh_row_rules.proofs.Outcomes.{with_front}
use Rattle.wh_table_text.proofs.rows.each_row.Given as goal

-- the rows so far and the outcome of the rest are the outcome of all
abbrev pub invariant-loop-index : goal.invariant-loop-index
invariant-loop-index l =
    with_front l.rows.items (all_of (rows_from l.names (l.index + 1) (map view (drop l.index l.values))))
    ≡ all_of (rows_from l.names 1 (map view l.values))
