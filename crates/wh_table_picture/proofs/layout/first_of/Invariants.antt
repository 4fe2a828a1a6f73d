use Rattle.std.proofs.Common.{◌≡◌, drop}
use Rattle.wh_table_picture.specs.Layout.{first_from}
use Rattle.wh_table_picture.proofs.layout.first_of.Given as goal

-- no row passed so far is for the state
abbrev pub invariant-loop-row : goal.invariant-loop-row
invariant-loop-row l = record {
  first : first_from l.place l.name (drop l.row-index l.rows) ≡ first_from 0 l.name l.rows;
  place : l.place ≡ l.row-index;
}
