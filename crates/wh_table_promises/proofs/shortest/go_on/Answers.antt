use Rattle.std.proofs.Common.{length, ap}
use Rattle.wh_table_promises.proofs.Fewer.{good_all}
use Rattle.wh_table_promises.proofs.shortest.go_on.Goals as goal

pub returns-then-branch-clause-good : goal.returns-then-branch-clause-good
returns-then-branch-clause-good c = λ is.
    good_all _ _ _ _ c.args.found.now.configs.items c.expand_each.new.found.configs.items c.args.from (length c.as_slice-end.result.now)
    (ap length c.as_slice-end.ensures.value) c.in_ok-expand_each.ensures c.requires.good
    (c.in_ok-are_good_between.ensures c.if-branch.true)
