use Rattle.std.proofs.Common.{◌≡◌, length, drop}
use Rattle.std.specs.Cmp.Lexicographic.{pointwise}
use Rattle.wh_explain_report.specs.Alike.{alike_command}
use Rattle.wh_explain_report.proofs.alike.alike_commands.Given as goal

-- those so far are alike
abbrev pub invariant-loop-index : goal.invariant-loop-index
invariant-loop-index l =
    (length l.one ≡ length l.other)
    × (pointwise alike_command (drop l.index l.one) (drop l.index l.other) ≡ pointwise alike_command l.one l.other)
