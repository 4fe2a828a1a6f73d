use Rattle.std.proofs.Common.{◌≡◌, length, drop}
use Rattle.std.specs.Cmp.Lexicographic.{pointwise}
use Rattle.wh_view_report.specs.Alike.{alike_event}
use Rattle.wh_view_report.proofs.alike.alike_tasks.Given as goal

-- those so far are alike
abbrev pub invariant-loop-index : goal.invariant-loop-index
invariant-loop-index l =
    (length l.one ≡ length l.other)
    × (pointwise (alike_event l.view) (drop l.index l.one) (drop l.index l.other) ≡ pointwise (alike_event l.view) l.one l.other)
