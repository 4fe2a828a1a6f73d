use Rattle.std.proofs.Common.{◌≡◌, drop}
use Rattle.wh_view.specs.Unsupported.{unsupported_kinds, kinds_from}
use Rattle.wh_view.proofs.unsupported.unsupported_kinds.Given as goal

-- the kinds so far, with those of the rest, are those of all
abbrev pub invariant-loop-index : goal.invariant-loop-index
invariant-loop-index l = kinds_from l.events l.index (drop l.index l.events) l.kinds.items ≡ unsupported_kinds l.events
