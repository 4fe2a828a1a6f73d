use Rattle.std.proofs.Common.{List, ◌++◌}
use Rattle.toml.specs.View.{members_view}
use Rattle.wh_policies.specs.declared.table.PolicyRow.{PolicyRow}
use Rattle.wh_policies.specs.TomlTables.{AreRows}
use Rattle.wh_policies.proofs.tables.rows_given.Given as goal

-- the rows so far, with rows of what is left, are those of all
abbrev pub invariant-loop-name : goal.invariant-loop-name
invariant-loop-name g l =
    (more : List (PolicyRow _)) → AreRows g.P.FromTable.gives l.otherwise (members_view l.name-iterator) more
    → AreRows g.P.FromTable.gives l.otherwise (members_view l.table.entries) (l.rows.items ++ more)
