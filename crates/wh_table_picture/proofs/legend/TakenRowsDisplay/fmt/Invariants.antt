use Rattle.std.proofs.Common.{take}
use Rattle.std.specs.Fmt.{HasWritten, IsPlainFormatter}
use Rattle.wh_html.specs.Html.{bytes, each}
use Rattle.wh_table_picture.specs.Pictures.{taken_html}
use Rattle.wh_table_picture.proofs.legend.TakenRowsDisplay.fmt.Given as goal

-- the rows so far have been written
abbrev pub invariant-loop-row : goal.invariant-loop-row
invariant-loop-row g l =
    IsPlainFormatter l.initial.f → HasWritten g.W.Write.write_str_gives l.initial.f (bytes (each taken_html (take l.row-index l.row-items))) l.f
