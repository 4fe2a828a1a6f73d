use Rattle.std.proofs.Common.{subst}
use Rattle.wh_tasks.specs.declared.source.Sent.TheVariants.{Activity}
use Rattle.wh_tasks.specs.Source.{KeepsOrigin}
use Rattle.wh_recorded.specs.Rounds.{Stage}
use Rattle.wh_recorded.specs.Calls.{ComesFrom}
use Rattle.wh_recorded.proofs.Coming.{comes_stored}
use Rattle.wh_recorded.proofs.script_source.ScriptSourceTaskSource.answer_activity.Goals as goal

pub returns-clause-origin : goal.returns-clause-origin
returns-clause-origin c =
    let old : Stage = record { histories = c.self.inside.histories.items; round = c.self.inside.round; next = c.self.inside.next; answers = c.self.inside.answers } in
    let came = comes_stored old c.store.new.self c.args.name (Activity c.args.answer) c.store.result c.store.ensures.sent c.store.ensures.unsent in
    subst (λ stage. KeepsOrigin ComesFrom stage (record old { answers = c.store.new.self })) c.self.view_is came
