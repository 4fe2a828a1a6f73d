use Rattle.std.proofs.Common.{◌≤◌, length, sym, arith}
use Rattle.std.proofs.lemmas.List.{length-take-le, take_all}
use Rattle.wh_table_check.proofs.promise_texts.shown_steps.Goals as goal

pub slice_bounds-result-end : goal.slice_bounds-result-end
slice_bounds-result-end c =
    let more = c.if-way-le-MOST_STEPS.false in
    let within : 100 ≤ length c.args.way.now = omega arith in
    sym (length-take-le 100 c.args.way.now within)

pub returns-then-way-le-MOST_STEPS : goal.returns-then-way-le-MOST_STEPS
returns-then-way-le-MOST_STEPS c = sym (take_all 100 c.args.way.now c.if-way-le-MOST_STEPS.true)
