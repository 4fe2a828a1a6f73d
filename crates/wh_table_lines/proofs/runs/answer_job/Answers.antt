use Rattle.std.proofs.Common.{◌≡◌, List, subst, ◌∙◌, ap}
use Rattle.std.specs.Prelude.{IfOk, OnOk}
use Rattle.wh_rows.specs.Tables.{Row, rows_by}
use Rattle.wh_rows.specs.Rows.{rows_give, after_rows}
use Rattle.wh_row_rules.proofs.Texts.{rows_same}
use Rattle.wh_table_lines.proofs.runs.answer_job.Goals as goal

-- rows that own their texts, as they are seen
abbrev seen_rows : List Row → List Row
seen_rows rows = rows_by (λ text. text) (λ list. list) (λ list. list) (λ list. list) rows

pub returns-clause-commands : goal.returns-clause-commands
returns-clause-commands c =
    let all : seen_rows c.get.result.now ≡ c.args.table.now.rows = ap seen_rows c.get.ensures ∙ rows_same c.args.table.now.rows in
    subst (λ rows. IfOk c.answer.result (λ given. given.items ≡ rows_give rows c.args.run.now c.args.job.now)) all
    c.answer.ensures.commands

pub returns-clause-state : goal.returns-clause-state
returns-clause-state c =
    let all : seen_rows c.get.result.now ≡ c.args.table.now.rows = ap seen_rows c.get.ensures ∙ rows_same c.args.table.now.rows in
    subst (λ rows. OnOk c.answer.result (c.answer.new.state ≡ after_rows rows c.args.table.now.bounds c.args.run.now c.args.job.now)) all
    c.answer.ensures.state
