use Rattle.std.proofs.Common.{subst, arith, rules}
use Rattle.wh_host.specs.Cache.{CacheView, entry_of, IsSound}
use Rattle.wh_host.proofs.Fitting.{going_parts, held_by-few}
use Rattle.wh_host.proofs.cache.Sticky.count_evictions.Goals as goal

pub returns-clause-most : goal.returns-clause-most
returns-clause-most g c =
    let sound = subst (λ (v : CacheView). IsSound g.W.Workflow.program v) c.self.view_is c.self.invariant.2 in
    going_parts c.args.self.now (entry_of c.args.run.now) c.room_beside-left.result _ (search rules) (omega arith) (held_by-few g.W.Workflow.program c.args.self.now sound) (search rules) (search rules)
