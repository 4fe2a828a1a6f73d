use Rattle.std.proofs.Common.{map}
use Rattle.wh_table_promises.specs.Private.Seen.{config_seen}
use Rattle.wh_table_promises.specs.Private.Found.{GoesOn}
use Rattle.wh_table_promises.proofs.shortest.expand_each.Given as goal

-- what is found goes on from what was
abbrev pub invariant-loop-index : goal.invariant-loop-index
invariant-loop-index l = GoesOn (map config_seen l.initial.found.configs.items) (map config_seen l.found.configs.items)
