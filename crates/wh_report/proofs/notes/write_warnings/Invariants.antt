use Rattle.std.proofs.Common.{take}
use Rattle.std.specs.Io.KnownBytes.{Appends}
use Rattle.wh_report.specs.Notes.{warning_lines}
use Rattle.wh_report.proofs.notes.write_warnings.Given as goal

-- the lines so far have been written
abbrev pub invariant-loop-value : goal.invariant-loop-value
invariant-loop-value g l =
    Appends (g.E.Write.contents l.initial.writer) (g.E.Write.contents l.writer) (warning_lines l.file (take l.value-index l.values) l.name)
