use Rattle.std.specs.Map.{keys_of}
use Rattle.wh_policies.proofs.Keys.{AreKnown}
use Rattle.wh_policies.proofs.reading.unknown_in.Given as goal

-- once the keys that are left are known, all are
abbrev pub invariant-loop-key : goal.invariant-loop-key
invariant-loop-key g l = AreKnown g.P.FromTable.known l.key-iterator → AreKnown g.P.FromTable.known (keys_of l.table.entries)
