use Rattle.std.proofs.Common.{◌≡◌, ◌≤◌, ◌++◌, ℕ, List, drop}
use Rattle.std.specs.Io.KnownBytes.{Appends}
use Rattle.wh_explain_report.specs.TaskTexts.{folded_from}
use Rattle.wh_explain_report.proofs.tasks.write_rest.Given as goal

-- what has been written, with the text of the rest, is the whole
abbrev pub invariant-loop-task : goal.invariant-loop-task
invariant-loop-task g l =
    (done : List ℕ) × Appends (g.O.Write.contents l.initial.writer) (g.O.Write.contents l.writer) done
    × (done ++ folded_from l.before l.count (drop l.task-index l.rest) ≡ folded_from l.first 0 l.rest)
    × (l.count ≤ l.task-index)
