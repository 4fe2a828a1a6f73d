use Rattle.std.proofs.Common.{◌≡◌, List, subst, ◌∙◌, ap}
use Rattle.std.specs.Prelude.{IfOk, OnOk}
use Rattle.wh_rows.specs.Tables.{Row, rows_by}
use Rattle.wh_rows.specs.Naming.{name_by}
use Rattle.wh_rows.specs.Rows.{started, rows_give, after_rows}
use Rattle.wh_row_rules.proofs.Texts.{naming_same, rows_same}
use Rattle.wh_table.proofs.following.answer_rows.Goals as goal

-- rows that own their texts, as they are seen
abbrev seen_rows : List Row → List Row
seen_rows rows = rows_by (λ text. text) (λ list. list) (λ list. list) (λ list. list) rows

pub returns-clause-commands : goal.returns-clause-commands
returns-clause-commands c =
    let now : c.take_start.new.state ≡ started (name_by c.args.table.now.name) c.args.run.now c.args.job.now =
    c.in_ok-take_start.ensures ∙ ap (λ naming. started (name_by naming) c.args.run.now c.args.job.now) (naming_same c.args.table.now.name) in
    let all : seen_rows c.get.result.now ≡ c.args.table.now.rows = ap seen_rows c.get.ensures ∙ rows_same c.args.table.now.rows in
    subst (λ rows. IfOk c.answer.result (λ given. given.items
    ≡ rows_give rows (started (name_by c.args.table.now.name) c.args.run.now c.args.job.now) c.args.job.now)) all
    (subst (λ state. IfOk c.answer.result (λ given. given.items ≡ rows_give (seen_rows c.get.result.now) state c.args.job.now)) now
    c.answer.ensures.commands)

pub returns-clause-state : goal.returns-clause-state
returns-clause-state c =
    let now : c.take_start.new.state ≡ started (name_by c.args.table.now.name) c.args.run.now c.args.job.now =
    c.in_ok-take_start.ensures ∙ ap (λ naming. started (name_by naming) c.args.run.now c.args.job.now) (naming_same c.args.table.now.name) in
    let all : seen_rows c.get.result.now ≡ c.args.table.now.rows = ap seen_rows c.get.ensures ∙ rows_same c.args.table.now.rows in
    subst (λ rows. OnOk c.answer.result (c.answer.new.state
    ≡ after_rows rows c.args.table.now.bounds (started (name_by c.args.table.now.name) c.args.run.now c.args.job.now) c.args.job.now)) all
    (subst (λ state. OnOk c.answer.result (c.answer.new.state ≡ after_rows (seen_rows c.get.result.now) c.args.table.now.bounds state c.args.job.now)) now
    c.answer.ensures.state)
