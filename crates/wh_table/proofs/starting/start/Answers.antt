use Rattle.std.proofs.Common.{◌≡◌, subst, ◌∙◌, ap}
use Rattle.std.specs.Prelude.{IfOk}
use Rattle.wh_workflow.specs.declared.job.Job.TheVariants as jobs
use Rattle.wh_table.specs.Program.{front, tail, table_in, opening}
use Rattle.wh_table.proofs.starting.start.Goals as goal

-- what the copies of what the run is started with give, that gives
pub returns-clause-given : goal.returns-clause-given
returns-clause-given c =
    let rest : c.in_ok-tail.field-0 ≡ tail c.args.input.now = c.in_ok-tail.ensures ∙ ap tail c.get.ensures in
    subst (λ workflow. IfOk c.start_with.result (λ o. o.given.items
    ≡ opening c.args.workflow.now (front c.args.input.now) (table_in c.args.input.now) (jobs.Start workflow (tail c.args.input.now)))) c.in_ok-try_copy.ensures
    (subst (λ others. IfOk c.start_with.result (λ o. o.given.items
    ≡ opening c.args.workflow.now (front c.args.input.now) (table_in c.args.input.now) (jobs.Start c.in_ok-try_copy.field-0 others))) rest
    c.start_with.ensures.given)
