use Rattle.std.proofs.Common.{◌≡◌, ◌++◌, ℕ, List, drop}
use Rattle.std.specs.List.{flat_map}
use Rattle.std.specs.Io.KnownBytes.{Appends}
use Rattle.wh_explain_report.specs.Selections.{sharing}
use Rattle.wh_explain_report.specs.Texts.{task_text}
use Rattle.wh_explain_report.proofs.tasks.write_after.Given as goal

-- what has been written, with what is to be written of the rest, is the whole
abbrev pub invariant-loop-task : goal.invariant-loop-task
invariant-loop-task g l =
    (done : List ℕ) × Appends (g.O.Write.contents l.initial.writer) (g.O.Write.contents l.writer) done
    × (done ++ flat_map task_text (drop l.left (sharing l.fault (drop l.task-index l.before)))
    ≡ flat_map task_text (drop l.skipped (sharing l.fault l.before)))
