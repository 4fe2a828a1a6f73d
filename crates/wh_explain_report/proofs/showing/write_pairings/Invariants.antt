use Rattle.std.proofs.Common.{take}
use Rattle.std.specs.List.{flat_map}
use Rattle.std.specs.Io.KnownBytes.{Appends}
use Rattle.wh_explain_report.specs.Texts.{pairing_line}
use Rattle.wh_explain_report.proofs.showing.write_pairings.Given as goal

-- the lines so far have been written
abbrev pub invariant-loop-pairing : goal.invariant-loop-pairing
invariant-loop-pairing g l =
    Appends (g.O.Write.contents l.initial.writer) (g.O.Write.contents l.writer) (flat_map pairing_line (take l.pairing-index l.pairings))
