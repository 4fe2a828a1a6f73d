use Rattle.std.proofs.Common.{◌∙◌, [], ap, codes, sym}
use Rattle.std.proofs.lemmas.Result.{IfOk-weaker}
use Rattle.std.specs.Prelude.{unwrap_or}
use Rattle.clap.specs.Words.{found_of}
use Rattle.clap.proofs.WalkLemmas.{raw_values-rows}
use Rattle.wh_command_line.proofs.query.input_given.Goals as goal

-- the words are all values of their row
pub returns-in-Some-clause-given : goal.returns-in-Some-clause-given
returns-in-Some-clause-given c =
    let all = sym (raw_values-rows (found_of c.args.given.now) (codes "JSON")) ∙ sym c.in-Some.ensures in
    IfOk-weaker c.text_copies.result _ _ (λ copies same. same ∙ sym (ap (λ found. unwrap_or found []) all)) c.text_copies.ensures.ok

-- there is no row of them
pub returns-in-None-clause-given : goal.returns-in-None-clause-given
returns-in-None-clause-given c =
    let none = sym (raw_values-rows (found_of c.args.given.now) (codes "JSON")) ∙ sym c.in-None.ensures in
    c.new.ensures.items ∙ sym (ap (λ found. unwrap_or found []) none)
