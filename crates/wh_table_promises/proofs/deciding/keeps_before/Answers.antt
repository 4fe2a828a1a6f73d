use Rattle.std.proofs.Common.{◌-◌, ◌≤◌, suc, ℕ, List, map, subst, arith}
use Rattle.wh_row_rules.specs.Broken.{definition}
use Rattle.wh_rows.specs.Watches.{Turn}
use Rattle.wh_rows.specs.Deciding.{case_of}
use Rattle.wh_rows.specs.Promises.{watch_of}
use Rattle.wh_table_promises.specs.Promised.{promise_of}
use Rattle.wh_table_promises.specs.Private.Seen.{turn_seen}
use Rattle.wh_table_promises.specs.Private.Found.{LeadsFrom}
use Rattle.wh_table_promises.proofs.Fewer.{kept_before}
use Rattle.wh_table_promises.proofs.deciding.keeps_before.Goals as goal

pub returns-then-branch : goal.returns-then-branch
returns-then-branch c = λ is.
    let tops = c.args.rules.now.tops in
    let it = case_of (definition c.args.table.now) in
    let most : c.args.jobs ≤ suc (c.args.jobs - 1) = omega arith in
    kept_before (definition c.args.table.now) (promise_of c.args.promise.now) tops (c.args.jobs - 1)
    (c.in_ok-shows_at.ensures.within c.if-branch.true)
    (subst (λ (turns : List Turn). LeadsFrom tops turns (watch_of (promise_of c.args.promise.now)).budget it.rows it.first (c.args.jobs - 1))
    c.requires.turns
    (subst (λ (budget : ℕ). LeadsFrom tops (map turn_seen c.args.rules.now.turns.now) budget it.rows it.first (c.args.jobs - 1))
    c.budget_of.ensures
    (subst (λ (jobs : ℕ). LeadsFrom tops (map turn_seen c.args.rules.now.turns.now) c.budget_of.result it.rows it.first jobs)
    c.saturating_sub-earlier.ensures (c.in_ok-shows_at.ensures.leads c.if-branch.true))))
    c.args.jobs most
