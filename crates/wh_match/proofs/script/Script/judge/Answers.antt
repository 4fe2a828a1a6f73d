use Rattle.std.specs.Result.{result_err}
use Rattle.wh_match.specs.Issuing.{context_in}
use Rattle.wh_match.proofs.Judged.{early_found, act_found}
use Rattle.wh_match.proofs.script.Script.judge.Goals as goal

pub returns-in-Some-clause-fault : goal.returns-in-Some-clause-fault
returns-in-Some-clause-fault c = λ recorded settled. early_found (context_in c.args.track.now c.args.self.now recorded) settled c.args.self.now.issued c.args.command.now c.in-Some.fault c.in-Some.ensures

pub returns-in-None-clause-fault : goal.returns-in-None-clause-fault
returns-in-None-clause-fault c =
    let script = c.args.self.now in
    λ recorded settled. act_found c.args.track.now script.previous script.cut recorded settled script.issued c.args.command.now c.requires.not_ask (result_err c.judge_act.result) c.in-None.ensures c.judge_act.ensures.fault
