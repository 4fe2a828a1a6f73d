use Rattle.std.proofs.Common.{ap}
use Rattle.std.proofs.lemmas.Result.{on_ok_weaker}
use Rattle.wh_match.specs.Issuing.{Issuing}
use Rattle.wh_replay.specs.Views.{context_of}
use Rattle.wh_replay.proofs.Responding.{issued_of}
use Rattle.wh_replay.proofs.activation.issue_one.Goals as goal

pub returns-clause-issued : goal.returns-clause-issued
returns-clause-issued c = on_ok_weaker c.issue.result (λ h. ap (λ (n : Issuing). n.issued) (h (context_of c.args.cut.now).recorded)) c.issue.ensures.ok

pub returns-clause-script : goal.returns-clause-script
returns-clause-script c =
    on_ok_weaker c.issue.result (λ h. issued_of c.args.cut.now c.args.script.now c.issue.new.self c.args.command c.requires.script (h (context_of c.args.cut.now).recorded)) c.issue.ensures.ok
