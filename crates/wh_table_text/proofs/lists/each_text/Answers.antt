use Rattle.std.proofs.Common.{sym, subst, ap, ◌∙◌, ◌+◌, map, drop}
use Rattle.std.proofs.lemmas.Result.{err_from_is_err_and}
use Rattle.serde_json.specs.View.{view}
use Rattle.wh_row_rules.specs.Outcome.{all_of, StopsAt}
use Rattle.wh_table_text.specs.Reading.{text_at}
use Rattle.wh_row_rules.proofs.Outcomes.{with_front, seen_on, seen_stops, seen_all}
use Rattle.wh_table_text.proofs.lists.each_text.Goals as goal

pub loop-value-preserved : goal.loop-value-preserved
loop-value-preserved c =
    let i = c.loop-value.value-index in
    ap (λ texts. with_front texts (all_of (map (text_at c.args.fault) (map view (drop (i + 1) c.args.values.now))))) c.in_ok-push.ensures.items
    ∙ sym (seen_on view (text_at c.args.fault) c.loop-value.texts.items c.args.values.now i c.value-item.result c.in_ok-text.text c.loop-value-test.true c.value-item.is c.in_ok-text.ensures)
    ∙ c.loop-value.invariant

pub returns : goal.returns
returns c = sym c.loop-value.invariant ∙ seen_all view (text_at c.args.fault) c.loop-value.texts.items c.args.values.now c.loop-value.value-index c.loop-value-test.false

pub returns-in_err-text : goal.returns-in_err-text
returns-in_err-text c =
    let p = err_from_is_err_and c.from_residual.result c.from_residual.ensures.1 in
    rw (p.1, p.2) (subst (StopsAt _) c.loop-value.invariant (seen_stops view (text_at c.args.fault) c.loop-value.texts.items c.args.values.now c.loop-value.value-index c.value-item.result c.in_err-text.field-0.0 c.loop-value-test.true c.value-item.is c.in_err-text.ensures))
