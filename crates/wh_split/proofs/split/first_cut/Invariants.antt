use Rattle.std.proofs.Common.{◌≡◌, drop}
use Rattle.wh_events.specs.Cuts.{cuts}
use Rattle.wh_split.specs.Splits.{first_of}
use Rattle.wh_split.proofs.split.first_cut.Given as goal

abbrev pub invariant-loop-index : goal.invariant-loop-index
invariant-loop-index l = first_of (cuts (drop l.index l.events)) ≡ first_of (cuts l.events)
