use Rattle.std.proofs.Common.{take}
use Rattle.std.specs.Fmt.{HasWritten, IsPlainFormatter}
use Rattle.wh_html.specs.Html.{bytes, each}
use Rattle.wh_page.specs.Frames.{fact_html}
use Rattle.wh_page.proofs.frame.FactRowsDisplay.fmt.Given as goal

-- the facts so far have been written
abbrev pub invariant-loop-fact : goal.invariant-loop-fact
invariant-loop-fact g l =
    IsPlainFormatter l.initial.f → HasWritten g.W.Write.write_str_gives l.initial.f (bytes (each (fact_html) (take l.fact-index l.fact-items))) l.f
