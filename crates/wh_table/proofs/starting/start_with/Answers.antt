use Rattle.std.proofs.Common.{◌≡◌, sym, subst, ◌∙◌, ap, Ok}
use Rattle.std.specs.Prelude.{IfOk}
use Rattle.wh_table.specs.Program.{front, table_in, opening}
use Rattle.wh_table.proofs.starting.start_with.Goals as goal

-- what the table gives to the copies of what the run is started with, it gives to that
pub returns-in-Ok-clause-given : goal.returns-in-Ok-clause-given
returns-in-Ok-clause-given c =
    let payload : c.in_ok-payload.payload ≡ front c.args.input.now = c.in_ok-payload.ensures ∙ ap front c.get.ensures in
    let table : table_in c.args.input.now ≡ Ok c.in-Ok.table = ap table_in (sym c.get-2.ensures) ∙ c.in-Ok.ensures in
    subst (λ read. IfOk c.follow_table.result (λ o. o.given.items
    ≡ opening c.args.workflow.now (front c.args.input.now) read c.args.job.now)) (sym table)
    (subst (λ kind. IfOk c.follow_table.result (λ o. o.given.items
    ≡ opening kind (front c.args.input.now) (Ok c.in-Ok.table) c.args.job.now)) c.in_ok-kind.ensures
    (subst (λ first. IfOk c.follow_table.result (λ o. o.given.items
    ≡ opening c.in_ok-kind.kind first (Ok c.in-Ok.table) c.args.job.now)) payload
    c.follow_table.ensures.given))
