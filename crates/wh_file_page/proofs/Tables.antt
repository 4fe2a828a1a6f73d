-- The table of a run, by the path that the run took.
use Rattle.std.proofs.Common.{◌≡◌, ◌∙◌, ◌↔◌, ℕ, List, Option, Some, None, ap, is_some, sym}
use Rattle.std.specs.Prelude.{IsSome}
use Rattle.std.specs.Option.{option_map}
use Rattle.wh_file_page.specs.Brought.{BringsTable}
use Rattle.wh_file_page.specs.RunTables.{IsTableIn, run_table}
use Rattle.wh_file_page.specs.Ways.{IsWayOf}
use Rattle.wh_file_page.specs.declared.run_table.RunTable.{RunTable}
use Rattle.wh_file_page.specs.declared.way.Way.{Way}

-- there is one exactly where there is a path
pub table_by : (bytes : List ℕ) (way : Option Way) (table : Option RunTable) → IsWayOf bytes way
    → (IsSome way ↔ BringsTable bytes) → table ≡ option_map run_table way → IsTableIn bytes table
table_by bytes None table took there is = record {
  way = None;
  took = took;
  is = is;
  brought = (λ some. there.0 (ap is_some (sym is) ∙ some), λ brings. ap is_some is ∙ there.1 brings);
}
table_by bytes (Some way) table took there is = record {
  way = Some way;
  took = took;
  is = is;
  brought = (λ some. there.0 (ap is_some (sym is) ∙ some), λ brings. ap is_some is ∙ there.1 brings);
}
