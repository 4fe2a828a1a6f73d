use Rattle.std.proofs.Common.{take}
use Rattle.std.specs.List.{flat_map}
use Rattle.std.specs.Io.KnownBytes.{Appends}
use Rattle.wh_explain_report.specs.Json.{task_objects}
use Rattle.wh_explain_report.proofs.json_lines.write_tasks.Given as goal

-- the lines so far have been written
abbrev pub invariant-loop-task : goal.invariant-loop-task
invariant-loop-task g l =
    Appends (g.O.Write.contents l.initial.writer) (g.O.Write.contents l.writer) (flat_map task_objects (take l.task-index l.tasks))
