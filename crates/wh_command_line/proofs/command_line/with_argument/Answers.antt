use Rattle.std.proofs.Common.{◌∙◌, ◌||◌, ap₂, subst}
use Rattle.std.specs.Prelude.{IfOk}
use Rattle.std.proofs.lemmas.Result.{IfOk-weaker}
use Rattle.clap.specs.Words.{with_rule}
use Rattle.wh_command_line.specs.Lines.{StandsFor}
use Rattle.wh_command_line.proofs.command_line.with_argument.Goals as goal

pub returns : goal.returns
returns c = λ app rule is_rule local stands.
    let own = subst (λ r. IfOk r (StandsFor app)) c.in_ok-command.was stands in
    IfOk-weaker c.arg.result _ _ (λ r h. (
      h.shape local ∙ ap₂ with_rule own.0 is_rule,
      h.globals ∙ ap₂ (λ a b. a || b) own.1 local,
    )) c.arg.ensures
