use Rattle.std.proofs.Common.{◌≡◌, true, List, map, subst}
use Rattle.wh_row_rules.specs.Broken.{definition}
use Rattle.wh_rows.specs.Watches.{Turn}
use Rattle.wh_rows.specs.Deciding.{Config, case_of}
use Rattle.wh_table_promises.specs.Promised.{promise_of}
use Rattle.wh_table_promises.specs.Private.Seen.{config_seen}
use Rattle.wh_table_promises.specs.Private.Found.{shows_all}
use Rattle.wh_table_promises.proofs.Showing.{shown_within}
use Rattle.wh_table_promises.proofs.deciding.proves.Goals as goal

pub returns-then-branch : goal.returns-then-branch
returns-then-branch c = λ is.
    let all : List Config = map config_seen c.args.found.now.configs.items in
    let tops = c.args.rules.now.tops in
    shown_within (definition c.args.table.now) (promise_of c.args.promise.now) tops all c.args.budget c.requires.within
    (subst (λ (turns : List Turn). shows_all (case_of (definition c.args.table.now)) tops turns c.args.budget all ≡ true)
    c.requires.turns (c.in_ok-shows.ensures c.if-branch.true))
