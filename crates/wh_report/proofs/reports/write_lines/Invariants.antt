use Rattle.std.proofs.Common.{take}
use Rattle.std.specs.List.{flat_map}
use Rattle.std.specs.Io.KnownBytes.{Appends}
use Rattle.wh_tester.specs.Report.{line_text}
use Rattle.wh_report.proofs.reports.write_lines.Given as goal

-- the lines so far have been written
abbrev pub invariant-loop-one : goal.invariant-loop-one
invariant-loop-one g l =
    Appends (g.O.Write.contents l.initial.writer) (g.O.Write.contents l.writer) (flat_map (λ one. line_text one.line) (take l.one-index l.records))
