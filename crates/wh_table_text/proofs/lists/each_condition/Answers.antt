use Rattle.std.proofs.Common.{sym, subst, ap, ◌∙◌, ◌+◌, map, drop}
use Rattle.std.proofs.lemmas.Result.{err_from_is_err_and}
use Rattle.wh_row_rules.specs.Outcome.{all_of, StopsAt}
use Rattle.wh_table_text.specs.Reading.{condition_at}
use Rattle.wh_row_rules.proofs.Outcomes.{with_front, each_on, each_stops, each_all}
use Rattle.wh_table_text.proofs.lists.each_condition.Goals as goal

pub loop-text-preserved : goal.loop-text-preserved
loop-text-preserved c =
    let i = c.loop-text.text-index in
    ap (λ given. with_front given (all_of (map (condition_at c.args.names.now c.args.row) (drop (i + 1) c.args.texts.now)))) c.in_ok-push.ensures.items
    ∙ sym (each_on (condition_at c.args.names.now c.args.row) c.loop-text.given.items c.args.texts.now i c.text-item.result c.in_ok-condition.condition c.loop-text-test.true c.text-item.is c.in_ok-condition.ensures)
    ∙ c.loop-text.invariant

pub returns : goal.returns
returns c = sym c.loop-text.invariant ∙ each_all (condition_at c.args.names.now c.args.row) c.loop-text.given.items c.args.texts.now c.loop-text.text-index c.loop-text-test.false

pub returns-in_err-condition : goal.returns-in_err-condition
returns-in_err-condition c =
    let p = err_from_is_err_and c.from_residual.result c.from_residual.ensures.1 in
    rw (p.1, p.2) (subst (StopsAt _) c.loop-text.invariant (each_stops (condition_at c.args.names.now c.args.row) c.loop-text.given.items c.args.texts.now c.loop-text.text-index c.text-item.result c.in_err-condition.field-0.0 c.loop-text-test.true c.text-item.is c.in_err-condition.ensures))
