use Rattle.std.proofs.Common.{take}
use Rattle.std.specs.Fmt.{HasWritten, IsPlainFormatter}
use Rattle.wh_html.specs.Html.{bytes, each}
use Rattle.wh_html.specs.Pictures.{stop_html}
use Rattle.wh_html.proofs.picture.ScaleMarksDisplay.fmt.Given as goal

-- the stops so far have been written
abbrev pub invariant-loop-stop : goal.invariant-loop-stop
invariant-loop-stop g l =
    IsPlainFormatter l.initial.f → HasWritten g.W.Write.write_str_gives l.initial.f (bytes (each (stop_html l.fn.self.bottom l.fn.self.first) (take l.stop-index l.stop-items))) l.f
