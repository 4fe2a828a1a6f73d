use Rattle.wh_replay.proofs.Responding.{asked_of}
use Rattle.wh_replay.proofs.activation.ask.Goals as goal

pub returns-clause-script : goal.returns-clause-script
returns-clause-script c =
    asked_of c.args.cut.now c.args.script.now c.ask.new.self c.args.versions.now c.get.result.now _ _ _ c.recorded_events.ensures c.requires.script c.in_ok-version.ensures.asked
