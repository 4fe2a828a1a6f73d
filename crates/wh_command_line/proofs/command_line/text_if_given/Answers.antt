use Rattle.std.proofs.Common.{◌∙◌, ap, sym, Some}
use Rattle.clap.specs.Words.{found_of}
use Rattle.clap.proofs.WalkLemmas.{first_value-rows}
use Rattle.wh_command_line.proofs.command_line.text_if_given.Goals as goal

pub returns-clause-given : goal.returns-clause-given
returns-clause-given c =
    let given = sym (first_value-rows (found_of c.args.given.now) c.args.name.now) ∙ sym c.in-Some.ensures in
    given ∙ ap Some (sym c.in_ok-text_copy.ensures.ok)

pub returns-in_default-clause-given : goal.returns-in_default-clause-given
returns-in_default-clause-given c =
    sym (first_value-rows (found_of c.args.given.now) c.args.name.now) ∙ sym c.in_default.ensures
