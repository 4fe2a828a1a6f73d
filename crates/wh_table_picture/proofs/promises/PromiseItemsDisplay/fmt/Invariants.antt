use Rattle.std.proofs.Common.{take}
use Rattle.std.specs.Fmt.{HasWritten, IsPlainFormatter}
use Rattle.wh_html.specs.Html.{bytes, each}
use Rattle.wh_table_picture.specs.Promises.{promise_html}
use Rattle.wh_table_picture.proofs.promises.PromiseItemsDisplay.fmt.Given as goal

-- the promises so far have been written
abbrev pub invariant-loop-line : goal.invariant-loop-line
invariant-loop-line g l =
    IsPlainFormatter l.initial.f → HasWritten g.W.Write.write_str_gives l.initial.f (bytes (each promise_html (take l.line-index l.line-items))) l.f
