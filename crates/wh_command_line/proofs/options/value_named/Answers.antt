use Rattle.std.proofs.Common.{◌≡◌, ◌∙◌, ◌<◌, ◌^◌, ℕ, List, ap, arith, subst, sym, Option, Some, None}
use Rattle.std.specs.Prelude.{IfSome, option_map}
use Rattle.clap.specs.Words.{first_value, rows_of, found_of}
use Rattle.clap.specs.declared.ArgMatches.{ArgMatches}
use Rattle.clap.proofs.WalkLemmas.{first_value-rows}
use Rattle.wh_command_line.specs.Given.{GivesWithin, IsNumber, value_named, value_of}
use Rattle.wh_command_line.proofs.options.value_named.Goals as goal

-- a value that was read is the one among the rows
value_among : (m : ArgMatches) (name text : List ℕ) (r : Option ℕ) → Some text ≡ first_value (found_of m) name → IfSome r (λ n. n ≡ value_of text)
    → IfSome r (λ n. value_named (rows_of (found_of m)) name ≡ Some n)
value_among m name text None e h = tt
value_among m name text (Some n) e h = ap (option_map value_of) (sym (first_value-rows (found_of m) name) ∙ sym e) ∙ ap Some (sym h)

-- where the value is no number, the rows give none
no_number : (m : ArgMatches) (name text : List ℕ) → Some text ≡ first_value (found_of m) name → (IsNumber text → ¬ (value_of text < 2 ^ 64))
    → (least most : ℕ) → most < 2 ^ 64 → ¬ (GivesWithin (rows_of (found_of m)) name least most)
no_number m name text e none least most below within =
    let both : Some text ≡ Some within.text = e ∙ (first_value-rows (found_of m) name ∙ within.given) in
    let same : within.text ≡ text = cc in
    let at_most = within.at_most in
    let small : value_of within.text < 2 ^ 64 = omega arith in
    none (subst IsNumber same within.number) (subst (λ (t : List ℕ). value_of t < 2 ^ 64) same small)

-- where there is no value, the rows give none
no_value : (m : ArgMatches) (name : List ℕ) → None ≡ first_value (found_of m) name
    → (least most : ℕ) → ¬ (GivesWithin (rows_of (found_of m)) name least most)
no_value m name e least most within =
    let both : None ≡ Some within.text = e ∙ (first_value-rows (found_of m) name ∙ within.given) in
    absurd cc

pub returns-clause-value : goal.returns-clause-value
returns-clause-value c =
    value_among c.args.given.now c.args.name.now _ c.number_of.result c.in_ok-get_str.ensures c.number_of.ensures.value

pub returns-clause-none : goal.returns-clause-none
returns-clause-none c = λ least most below none.
    no_number c.args.given.now c.args.name.now _ c.in_ok-get_str.ensures (c.number_of.ensures.none none) least most below

pub returns-in_err-get_str-clause-none : goal.returns-in_err-get_str-clause-none
returns-in_err-get_str-clause-none c = λ least most below none.
    no_value c.args.given.now c.args.name.now c.in_err-get_str.ensures least most
