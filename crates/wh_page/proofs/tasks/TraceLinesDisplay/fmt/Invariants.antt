use Rattle.std.proofs.Common.{take}
use Rattle.std.specs.Fmt.{HasWritten, IsPlainFormatter}
use Rattle.wh_html.specs.Html.{bytes, each}
use Rattle.wh_page.specs.TaskTexts.{trace_line_html}
use Rattle.wh_page.proofs.tasks.TraceLinesDisplay.fmt.Given as goal

-- the lines so far have been written
abbrev pub invariant-loop-line : goal.invariant-loop-line
invariant-loop-line g l =
    IsPlainFormatter l.initial.f → HasWritten g.W.Write.write_str_gives l.initial.f (bytes (each (trace_line_html) (take l.line-index l.line-items))) l.f
