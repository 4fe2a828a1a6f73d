use Rattle.std.proofs.Common.{take}
use Rattle.std.specs.List.{flat_map}
use Rattle.std.specs.Io.KnownBytes.{Appends}
use Rattle.wh_view_report.specs.Texts.{value_line}
use Rattle.wh_view_report.proofs.text.write_values.Given as goal

-- the lines so far have been written
abbrev pub invariant-loop-value : goal.invariant-loop-value
invariant-loop-value g l =
    Appends (g.O.Write.contents l.initial.writer) (g.O.Write.contents l.writer) (flat_map value_line (take l.value-index l.values))
