use Rattle.std.proofs.Common.{◌≡◌, arith, length}
use Rattle.std.proofs.lemmas.Grind.{common_steps}
use Rattle.wh_poll.proofs.Zips.{in_order}
use Rattle.wh_poll.proofs.pairs.zip_lists.Goals as goal

pub returns-clause-firsts : goal.returns-clause-firsts
returns-clause-firsts g c =
    let none : length c.loop-first.firsts.items ≡ 0 = grind (arith, common_steps) in
    in_order (λ pair. pair.0) c.loop-first.firsts.items c.args.firsts.now.items c.loop-first.pairs.items c.reverse.new.self.items c.loop-first.invariant.firsts none c.reverse.ensures.items

pub returns-clause-seconds : goal.returns-clause-seconds
returns-clause-seconds g c =
    let none : length c.loop-first.seconds.items ≡ 0 = grind (arith, common_steps) in
    in_order (λ pair. pair.1) c.loop-first.seconds.items c.args.seconds.items c.loop-first.pairs.items c.reverse.new.self.items c.loop-first.invariant.seconds none c.reverse.ensures.items

pub loop-first-preserved : goal.loop-first-preserved
loop-first-preserved g c = grind (arith, common_steps)
