use Rattle.std.proofs.Common.{inl, inr}
use Rattle.std.proofs.lemmas.Result.{IfErr-weaker}
use Rattle.wh_command_line.proofs.Reasons.{if_bad_then}
use Rattle.wh_command_line.proofs.command_line.plan_of.Goals as goal

pub returns-in-explain-clause-bad : goal.returns-in-explain-clause-bad
returns-in-explain-clause-bad c =
    IfErr-weaker c.explanation_given.result _ _ (if_bad_then _ _ (λ lacks. inr (inl (c.in-explain.is, lacks)))) c.explanation_given.ensures.bad
