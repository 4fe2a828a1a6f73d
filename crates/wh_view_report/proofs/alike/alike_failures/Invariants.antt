use Rattle.std.proofs.Common.{◌≡◌, length, drop}
use Rattle.std.specs.Cmp.Lexicographic.{pointwise}
use Rattle.wh_view_report.specs.Alike.{alike_failure}
use Rattle.wh_view_report.proofs.alike.alike_failures.Given as goal

-- those so far are alike
abbrev pub invariant-loop-index : goal.invariant-loop-index
invariant-loop-index l =
    (length l.one ≡ length l.other)
    × (pointwise alike_failure (drop l.index l.one) (drop l.index l.other) ≡ pointwise alike_failure l.one l.other)
