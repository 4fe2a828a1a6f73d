use Rattle.std.proofs.Common.{take}
use Rattle.std.specs.List.{flat_map}
use Rattle.std.specs.Io.KnownBytes.{Appends}
use Rattle.wh_report.specs.Reports.{object_after}
use Rattle.wh_report.proofs.reports.write_after.Given as goal

-- the objects so far have been written
abbrev pub invariant-loop-value : goal.invariant-loop-value
invariant-loop-value g l =
    Appends (g.O.Write.contents l.initial.writer) (g.O.Write.contents l.writer) (flat_map object_after (take l.value-index l.values))
