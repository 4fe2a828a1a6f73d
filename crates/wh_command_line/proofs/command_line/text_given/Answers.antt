use Rattle.std.proofs.Common.{◌∙◌, ap, sym, Some}
use Rattle.std.proofs.lemmas.Result.{IfOk-weaker}
use Rattle.clap.specs.Words.{found_of}
use Rattle.clap.proofs.WalkLemmas.{first_value-rows}
use Rattle.wh_command_line.proofs.Reasons.{if_bad}
use Rattle.wh_command_line.proofs.command_line.text_given.Goals as goal

pub returns-clause-given : goal.returns-clause-given
returns-clause-given c =
    let given = sym (first_value-rows (found_of c.args.given.now) c.args.name.now) ∙ sym c.in-Some.ensures in
    IfOk-weaker c.text_copy.result _ _ (λ text same. given ∙ ap Some (sym same)) c.text_copy.ensures.ok

pub returns-in_default-clause-bad : goal.returns-in_default-clause-bad
returns-in_default-clause-bad c =
    if_bad _ c.bad_line.result (sym (first_value-rows (found_of c.args.given.now) c.args.name.now) ∙ sym c.in_default.ensures)
