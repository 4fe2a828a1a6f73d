use Rattle.std.proofs.Common.{◌≡◌, map}
use Rattle.wh_table.specs.Carrying.{with_table}
use Rattle.wh_table.proofs.carrying.carry.Given as goal

-- the commands so far
abbrev pub invariant-loop-command : goal.invariant-loop-command
invariant-loop-command l = l.carried.items ≡ map (with_table l.kind l.table) l.yielded
