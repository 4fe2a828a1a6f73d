use Rattle.std.proofs.Common.{◌≡◌, ◌∙◌, ℕ, List, ap, sym, inl, inr, Some}
use Rattle.std.proofs.lemmas.Result.{err_from_is_err_and}
use Rattle.std.specs.Prelude.{option_map}
use Rattle.clap.specs.Words.{Row, Text, first_of, found_of}
use Rattle.clap.proofs.WalkLemmas.{first_value-rows}
use Rattle.wh_command_line.specs.Given.{GivesWithin, MayGiveWithin, value_of}
use Rattle.wh_command_line.proofs.Reasons.{if_bad_then}
use Rattle.wh_command_line.proofs.options.NumberOption.number_if_given.Goals as goal

-- a text that is no number within the limits is neither absent nor such a number
none_may : (rows : List Row) (name text : Text) (least most : ℕ) → first_of name rows ≡ Some text
    → ¬ (GivesWithin rows name least most) → ¬ (MayGiveWithin rows name least most)
none_may rows name text least most given none (inl lacks) = absurd cc
none_may rows name text least most given none (inr within) = none within

pub returns-in_default-clause-given : goal.returns-in_default-clause-given
returns-in_default-clause-given c =
    ap (option_map value_of) (sym (first_value-rows (found_of c.args.given.now) c.args.self.now.name.now) ∙ sym c.in_default.ensures)

pub returns-in_err-number-clause-bad : goal.returns-in_err-number-clause-bad
returns-in_err-number-clause-bad c =
    let given = sym (first_value-rows (found_of c.args.given.now) c.args.self.now.name.now) ∙ sym c.in-Some.ensures in
    let p = err_from_is_err_and c.from_residual.result c.from_residual.ensures.1 in
    rw (p.1, p.2) (if_bad_then _ _ (none_may _ _ _ _ _ given) c.in_err-number.field-0.0 c.in_err-number.ensures.bad)
