use Rattle.std.proofs.Common.{sym, subst, ap, ◌∙◌, ◌+◌, map, drop}
use Rattle.std.proofs.lemmas.Result.{err_from_is_err_and}
use Rattle.serde_json.specs.View.{view}
use Rattle.wh_row_rules.specs.Outcome.{all_of, StopsAt}
use Rattle.wh_table_text.specs.Reading.{rows_from}
use Rattle.wh_row_rules.proofs.Outcomes.{with_front}
use Rattle.wh_table_text.proofs.Outcomes.{row_on, row_stops, rows_all}
use Rattle.wh_table_text.proofs.rows.each_row.Goals as goal

pub loop-index-preserved : goal.loop-index-preserved
loop-index-preserved c =
    let i = c.loop-index.index in
    ap (λ rows. with_front rows (all_of (rows_from c.args.names.now (i + 1 + 1) (map view (drop (i + 1) c.args.values.now))))) c.in_ok-push.ensures.items
    ∙ sym (row_on c.args.names.now c.loop-index.rows.items c.args.values.now i c.index-values-index.result c.in_ok-row.row c.loop-index-test.true c.index-values-index.is c.in_ok-row.ensures)
    ∙ c.loop-index.invariant

pub returns : goal.returns
returns c = sym c.loop-index.invariant ∙ rows_all c.args.names.now c.loop-index.rows.items c.args.values.now c.loop-index.index c.loop-index-test.false

pub returns-in_err-row : goal.returns-in_err-row
returns-in_err-row c =
    let p = err_from_is_err_and c.from_residual.result c.from_residual.ensures.1 in
    rw (p.1, p.2) (subst (StopsAt _) c.loop-index.invariant (row_stops c.args.names.now c.loop-index.rows.items c.args.values.now c.loop-index.index c.index-values-index.result c.in_err-row.field-0.0 c.loop-index-test.true c.index-values-index.is c.in_err-row.ensures))
