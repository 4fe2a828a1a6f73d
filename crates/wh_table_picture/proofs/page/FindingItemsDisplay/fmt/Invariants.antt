use Rattle.std.proofs.Common.{take}
use Rattle.std.specs.Fmt.{HasWritten, IsPlainFormatter}
use Rattle.wh_html.specs.Html.{bytes, each}
use Rattle.wh_table_picture.specs.Pages.{item_html}
use Rattle.wh_table_picture.proofs.page.FindingItemsDisplay.fmt.Given as goal

-- the findings so far have been written
abbrev pub invariant-loop-found : goal.invariant-loop-found
invariant-loop-found g l =
    IsPlainFormatter l.initial.f → HasWritten g.W.Write.write_str_gives l.initial.f (bytes (each item_html (take l.found-index l.found-items))) l.f
