use Rattle.std.proofs.Common.{rules}
use Rattle.std.proofs.lemmas.Option.{slice_get-get_or}
use Rattle.wh_tasks.specs.declared.source.Polled.TheVariants.{Task}
use Rattle.wh_recorded.specs.Calls.Call.{poll}
use Rattle.wh_recorded.proofs.Coming.{comes_on}
use Rattle.wh_recorded.proofs.script_source.ScriptSourceTaskSource.poll_workflow.Goals as goal

pub returns-clause-next : goal.returns-clause-next
returns-clause-next c =
    let round = c.in-Some.round in
    let place = c.in-Some.place in
    let history = c.index.result.now in
    let at = slice_get-get_or c.args.self.now.histories place history in
    (round, place, history, search rules, search (rules, at), search rules, search rules)

pub returns-clause-task : goal.returns-clause-task
returns-clause-task c =
    let place = c.in-Some.place in
    let history = c.index.result.now in
    let at = slice_get-get_or c.args.self.now.histories place history in
    (place, c.in-Some.round, history, search (rules, at), search rules, search rules)

pub returns-clause-keeps : goal.returns-clause-keeps
returns-clause-keeps c = record { same = search rules; origin = comes_on c.args.self.now _ (poll (Task c.in-Ok.task)) (returns-clause-next c) }
