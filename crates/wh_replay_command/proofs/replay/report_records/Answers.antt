use Rattle.wh_replay_command.proofs.Steps.{nothing_reported, one_reported}
use Rattle.wh_replay_command.proofs.replay.report_records.Goals as goal

-- nothing at first
pub loop-own-init : goal.loop-own-init
loop-own-init g c = nothing_reported c.args.console.now

-- one record more
pub loop-own-preserved : goal.loop-own-preserved
loop-own-preserved g c =
    let at = c.loop-own in
    one_reported c.args.console.now at.console c.report.new.self at.yielded c.in-Some.own at.invariant c.report.ensures
