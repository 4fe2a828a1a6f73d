use Rattle.std.specs.List.{flat_map}
use Rattle.std.specs.Io.KnownBytes.{Appends}
use Rattle.wh_service.specs.Texts.{row_text}
use Rattle.wh_service.proofs.rows.write_rows.Given as goal

-- the lines so far have been written
abbrev pub invariant-loop-row : goal.invariant-loop-row
invariant-loop-row g l =
    Appends (g.O.Write.contents l.initial.writer) (g.O.Write.contents l.writer) (flat_map row_text l.yielded)
