use Rattle.std.proofs.Common.{take}
use Rattle.std.specs.Fmt.{HasWritten, IsPlainFormatter}
use Rattle.wh_html.specs.Html.{bytes, each}
use Rattle.wh_table_picture.specs.Pictures.{path_html}
use Rattle.wh_table_picture.proofs.legend.PathItemsDisplay.fmt.Given as goal

-- the paths so far have been written
abbrev pub invariant-loop-path : goal.invariant-loop-path
invariant-loop-path g l =
    IsPlainFormatter l.initial.f → HasWritten g.W.Write.write_str_gives l.initial.f (bytes (each path_html (take l.path-index l.path-items))) l.f
