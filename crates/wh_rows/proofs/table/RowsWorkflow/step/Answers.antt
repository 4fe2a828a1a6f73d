use Rattle.std.proofs.Common.{sym, subst, ◌∙◌, ap}
use Rattle.wh_workflow.specs.Law.{IsAnswer}
use Rattle.wh_rows.specs.Naming.{name_by}
use Rattle.wh_rows.specs.Rows.{started, rows_give}
use Rattle.wh_rows.specs.Lawful.{rows_lawful}
use Rattle.wh_rows.proofs.table.RowsWorkflow.step.Goals as goal

-- what a table gives is an answer, since it breaks no rule
pub give_all-requires : goal.give_all-requires
give_all-requires g c = record {
  lawful =
      subst IsAnswer
      (sym
      (c.in_ok-given.ensures.commands
      ∙ ap (λ table. rows_give table.rows c.take_start.new.state c.args.job.now) c.table-table.ensures
      ∙ ap (λ state. rows_give g.T.Table.table.rows state c.args.job.now)
      (c.in_ok-take_start.ensures
      ∙ ap (λ table. started (name_by table.name) c.args.state.now c.args.job.now) c.table-table.ensures)))
      (rows_lawful g.T.Table.table g.met.T.Table.faultless c.args.state.now c.args.job.now);
}
