use Rattle.wh_table_commands.proofs.Steps.{nothing_lacking, one_lacking}
use Rattle.wh_table_commands.proofs.trial_report.report_lacks.Goals as goal

-- nothing at first
pub loop-own-init : goal.loop-own-init
loop-own-init g c = nothing_lacking c.args.console.now

-- one table more
pub loop-own-preserved : goal.loop-own-preserved
loop-own-preserved g c =
    let at = c.loop-own in
    one_lacking c.args.console.now at.console c.report.new.self at.yielded c.in-Some.own at.invariant c.report.ensures
