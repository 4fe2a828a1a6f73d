use Rattle.std.proofs.Common.{◌≡◌, drop}
use Rattle.wh_rows.specs.Tables.{rows_by}
use Rattle.wh_rows.specs.Rows.{row_for}
use Rattle.wh_rows.proofs.choose.row_for.Given as goal

-- no row passed so far fits
abbrev pub invariant-loop-row : goal.invariant-loop-row
invariant-loop-row g l =
    row_for (rows_by g.T.RowText.bytes g.C.RowList.list g.G.RowList.list g.E.RowList.list (drop l.row-index l.rows)) l.state l.job
    ≡ row_for (rows_by g.T.RowText.bytes g.C.RowList.list g.G.RowList.list g.E.RowList.list l.rows) l.state l.job
