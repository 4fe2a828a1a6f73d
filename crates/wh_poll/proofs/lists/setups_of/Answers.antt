use Rattle.std.proofs.Common.{◌≡◌, arith, length}
use Rattle.std.proofs.lemmas.Grind.{common_steps}
use Rattle.wh_poll.proofs.Zips.{in_order}
use Rattle.wh_poll.proofs.lists.setups_of.Goals as goal

pub returns-clause-sources : goal.returns-clause-sources
returns-clause-sources g c =
    let none : length c.loop-source.sources.items ≡ 0 = grind (arith, common_steps) in
    in_order (λ setup. setup.source) c.loop-source.sources.items c.args.sources.items c.loop-source.setups.items c.reverse.new.self.items c.loop-source.invariant.sources none c.reverse.ensures.items

pub returns-clause-handlers : goal.returns-clause-handlers
returns-clause-handlers g c =
    let none : length c.loop-source.handlers.items ≡ 0 = grind (arith, common_steps) in
    in_order (λ setup. setup.handler) c.loop-source.handlers.items c.args.handlers.items c.loop-source.setups.items c.reverse.new.self.items c.loop-source.invariant.handlers none c.reverse.ensures.items

pub returns-clause-turns : goal.returns-clause-turns
returns-clause-turns g c =
    let none : length c.loop-source.turns.items ≡ 0 = grind (arith, common_steps) in
    in_order (λ setup. setup.turns) c.loop-source.turns.items c.args.turns.items c.loop-source.setups.items c.reverse.new.self.items c.loop-source.invariant.turns none c.reverse.ensures.items

pub loop-source-preserved : goal.loop-source-preserved
loop-source-preserved g c = grind (arith, common_steps)
