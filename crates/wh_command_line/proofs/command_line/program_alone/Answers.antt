use Rattle.std.proofs.Common.{◌∙◌, ap}
use Rattle.std.proofs.lemmas.Result.{IfOk-weaker}
use Rattle.clap.specs.Simple.{app_of_fields}
use Rattle.wh_command_line.specs.Lines.{with_version}
use Rattle.wh_command_line.proofs.command_line.program_alone.Goals as goal

pub returns : goal.returns
returns c =
    let own = ap app_of_fields c.after_help.ensures ∙ ap app_of_fields c.version.ensures ∙ ap with_version c.new.ensures.app in
    let called = ap app_of_fields c.in_ok-bin_name.ensures.0 ∙ own in
    IfOk-weaker c.display_name.result _ _ (λ r h. ap app_of_fields h.0 ∙ called) c.display_name.ensures
