use Rattle.std.proofs.Common.{sym, subst, ap, ◌∙◌, ◌+◌, map, drop}
use Rattle.std.proofs.lemmas.Result.{err_from_is_err_and}
use Rattle.wh_row_rules.specs.Outcome.{all_of, StopsAt}
use Rattle.wh_table_text.specs.Reading.{counter_in}
use Rattle.wh_row_rules.proofs.Outcomes.{with_front, each_on, each_stops, each_all}
use Rattle.wh_table_text.proofs.lists.each_counter.Goals as goal

pub loop-text-preserved : goal.loop-text-preserved
loop-text-preserved c =
    let i = c.loop-text.text-index in
    ap (λ given. with_front given (all_of (map counter_in (drop (i + 1) c.args.texts.now)))) c.in_ok-push.ensures.items
    ∙ sym (each_on counter_in c.loop-text.given.items c.args.texts.now i c.text-item.result c.in_ok-counter.counter c.loop-text-test.true c.text-item.is c.in_ok-counter.ensures)
    ∙ c.loop-text.invariant

pub returns : goal.returns
returns c = sym c.loop-text.invariant ∙ each_all counter_in c.loop-text.given.items c.args.texts.now c.loop-text.text-index c.loop-text-test.false

pub returns-in_err-counter : goal.returns-in_err-counter
returns-in_err-counter c =
    let p = err_from_is_err_and c.from_residual.result c.from_residual.ensures.1 in
    rw (p.1, p.2) (subst (StopsAt _) c.loop-text.invariant (each_stops counter_in c.loop-text.given.items c.args.texts.now c.loop-text.text-index c.text-item.result c.in_err-counter.field-0.0 c.loop-text-test.true c.text-item.is c.in_err-counter.ensures))
