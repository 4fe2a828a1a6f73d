use Rattle.std.proofs.Common.{[], subst, sym, append-nil}
use Rattle.toml.specs.View.{members_view}
use Rattle.wh_policies.specs.TomlTables.{AreRows}
use Rattle.wh_policies.proofs.tables.rows_given.Goals as goal

-- nothing is left
pub returns : goal.returns
returns g c =
    let rows = AreRows g.P.FromTable.gives c.args.otherwise.now in
    subst (rows (members_view c.args.table.now.entries)) (append-nil c.loop-name.rows.items)
    (c.loop-name.invariant [] (subst (λ es. rows (members_view es) []) (sym c.in-None.ensures.steps.0) tt))
