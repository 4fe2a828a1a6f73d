use Rattle.std.proofs.Common.{take}
use Rattle.std.specs.List.{flat_map}
use Rattle.std.specs.Io.KnownBytes.{Appends}
use Rattle.wh_view_report.specs.Folding.{told_text}
use Rattle.wh_view_report.proofs.folding.write_task.Given as goal

-- the lines so far have been written
abbrev pub invariant-loop-event : goal.invariant-loop-event
invariant-loop-event g l =
    Appends (g.O.Write.contents l.initial.writer) (g.O.Write.contents l.writer) (flat_map (told_text l.view) (take l.event-index l.task))
