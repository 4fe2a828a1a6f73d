use Rattle.std.proofs.Common.{◌≡◌, ◌++◌, drop}
use Rattle.wh_events.specs.Cuts.{cuts}
use Rattle.wh_split.proofs.split.cuts.Given as goal

abbrev pub invariant-loop-index : goal.invariant-loop-index
invariant-loop-index l = l.numbers.items ++ cuts (drop l.index l.events) ≡ cuts l.events
