use Rattle.std.proofs.Common.{◌≡◌, take}
use Rattle.wh_table.proofs.carrying.join_payloads.Given as goal

-- the payloads so far
abbrev pub invariant-loop-payload : goal.invariant-loop-payload
invariant-loop-payload l = l.both.items ≡ take l.payload-index l.front
