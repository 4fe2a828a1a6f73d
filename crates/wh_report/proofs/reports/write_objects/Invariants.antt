use Rattle.std.proofs.Common.{take}
use Rattle.std.specs.List.{flat_map}
use Rattle.std.specs.Io.KnownBytes.{Appends}
use Rattle.wh_report.specs.Reports.{json_record}
use Rattle.wh_report.proofs.reports.write_objects.Given as goal

-- the lines so far have been written
abbrev pub invariant-loop-one : goal.invariant-loop-one
invariant-loop-one g l =
    Appends (g.O.Write.contents l.initial.writer) (g.O.Write.contents l.writer) (flat_map json_record (take l.one-index l.records))
