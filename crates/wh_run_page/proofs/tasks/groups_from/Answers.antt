use Rattle.std.proofs.Common.{◌∙◌, sym, arith, rules}
use Rattle.wh_run_page.proofs.Steps.{groups_more, groups_all}
use Rattle.wh_run_page.proofs.tasks.groups_from.Goals as goal

pub loop-number-preserved : goal.loop-number-preserved
loop-number-preserved c =
    (groups_more c.args.numbers.now c.loop-number.number-index _ c.loop-number.group c.next_group-group.result c.loop-number.groups.items _ c.loop-number-test.true c.in_ok-push_closed.ensures c.next_group-group.ensures.next (search rules) ∙ c.loop-number.invariant.0, omega (arith, c.next_group-group.ensures.end, c.loop-number.invariant.1))

pub returns : goal.returns
returns c = c.in_ok-push.ensures.items ∙ sym (groups_all c.args.numbers.now c.loop-number.number-index c.loop-number.group c.loop-number.groups.items c.loop-number-test.false) ∙ c.loop-number.invariant.0
