use Rattle.std.proofs.Common.{take}
use Rattle.std.specs.Fmt.{HasWritten, IsPlainFormatter}
use Rattle.wh_html.specs.Html.{bytes, each}
use Rattle.wh_html.specs.Pictures.{tick_html}
use Rattle.wh_html.proofs.picture.TicksDisplay.fmt.Given as goal

-- the tasks so far have been written
abbrev pub invariant-loop-task : goal.invariant-loop-task
invariant-loop-task g l =
    IsPlainFormatter l.initial.f → HasWritten g.W.Write.write_str_gives l.initial.f (bytes (each (tick_html l.fn.self.0.now) (take l.task-index l.task-items))) l.f
