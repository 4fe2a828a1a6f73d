use Rattle.std.proofs.Common.{◌≡◌}
use Rattle.wh_table_check.specs.Allowed.{not_allowed}
use Rattle.wh_table_check.proofs.allowed.not_allowed.Given as goal

-- those so far that no text allows
abbrev pub invariant-loop-found : goal.invariant-loop-found
invariant-loop-found l = l.left.items ≡ not_allowed l.texts l.yielded
