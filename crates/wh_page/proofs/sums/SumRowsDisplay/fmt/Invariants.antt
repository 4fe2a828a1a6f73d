use Rattle.std.proofs.Common.{take}
use Rattle.std.specs.Fmt.{HasWritten, IsPlainFormatter}
use Rattle.wh_html.specs.Html.{bytes, each}
use Rattle.wh_page.specs.Sums.{sum_html}
use Rattle.wh_page.proofs.sums.SumRowsDisplay.fmt.Given as goal

-- the types so far have been written
abbrev pub invariant-loop-sum : goal.invariant-loop-sum
invariant-loop-sum g l =
    IsPlainFormatter l.initial.f → HasWritten g.W.Write.write_str_gives l.initial.f (bytes (each sum_html (take l.sum-index l.sum-items))) l.f
