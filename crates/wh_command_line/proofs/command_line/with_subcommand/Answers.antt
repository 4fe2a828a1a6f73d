use Rattle.std.proofs.Common.{◌≡◌, ◌∙◌, ap₂, subst}
use Rattle.std.specs.Prelude.{IfOk}
use Rattle.std.proofs.lemmas.Result.{IfOk-weaker}
use Rattle.clap.specs.Words.{App, app_of, with_subcommand}
use Rattle.wh_command_line.specs.Lines.{StandsFor}
use Rattle.wh_command_line.proofs.command_line.with_subcommand.Goals as goal

pub returns : goal.returns
returns c = λ above app is_above stands.
    let whole = subst (λ r. IfOk r (λ p. app_of p ≡ above)) c.in_ok-program.was is_above in
    let own = subst (λ r. IfOk r (StandsFor app)) c.in_ok-subcommand.was stands in
    IfOk-weaker c.subcommand.result _ _ (λ r h. h.shape own.1 ∙ ap₂ (λ (a b : App). with_subcommand a b.top) whole own.0) c.subcommand.ensures
