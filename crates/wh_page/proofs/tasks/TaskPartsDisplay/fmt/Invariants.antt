use Rattle.std.proofs.Common.{take}
use Rattle.std.specs.Fmt.{HasWritten, IsPlainFormatter}
use Rattle.wh_html.specs.Html.{bytes, each}
use Rattle.wh_page.specs.TaskTexts.{task_html}
use Rattle.wh_page.proofs.tasks.TaskPartsDisplay.fmt.Given as goal

-- the tasks so far have been written
abbrev pub invariant-loop-task : goal.invariant-loop-task
invariant-loop-task g l =
    IsPlainFormatter l.initial.f → HasWritten g.W.Write.write_str_gives l.initial.f (bytes (each (task_html) (take l.task-index l.task-items))) l.f
