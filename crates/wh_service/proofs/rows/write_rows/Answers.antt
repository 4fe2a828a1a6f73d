use Rattle.std.proofs.Common.{[], ◌∷◌, append-nil}
use Rattle.std.proofs.KnownBytes.{Appends-trans}
use Rattle.std.proofs.lemmas.Grind.{flat_map-append}
use Rattle.std.specs.List.{flat_map}
use Rattle.wh_service.specs.Texts.{row_text}
use Rattle.wh_service.proofs.rows.write_rows.Goals as goal

-- the line of a row comes after those before it
pub loop-row-preserved : goal.loop-row-preserved
loop-row-preserved g c =
    rw (flat_map-append row_text c.loop-row.yielded (c.in-Some.row ∷ []), append-nil (row_text c.in-Some.row))
    (Appends-trans (g.O.Write.contents c.args.writer.now) (g.O.Write.contents c.loop-row.writer) (g.O.Write.contents c.write_row.new.writer) (flat_map row_text c.loop-row.yielded) (row_text c.in-Some.row) c.loop-row.invariant c.in_ok-write_row.ensures)
