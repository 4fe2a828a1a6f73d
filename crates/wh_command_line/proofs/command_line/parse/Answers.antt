use Rattle.std.proofs.Common.{◌≡◌, ◌∙◌, inl, inr, List, ap, ap₂, sym, refl, true, Option, Some, None}
use Rattle.std.proofs.lemmas.Result.{IfOk-weaker, IfErr-weaker}
use Rattle.std.specs.Prelude.{map, option_map, string_bytes}
use Rattle.clap.specs.Words.{Row, Text, is_simple, is_simple_and_free, subcommand_of}
use Rattle.clap.proofs.OnLiterals.{clap_on_literals}
use Rattle.wh_command_line.specs.Lines.{program}
use Rattle.wh_command_line.specs.Plans.{IsRead, Names}
use Rattle.wh_command_line.proofs.Reasons.{if_bad, if_bad_then, program_is_free, kinds_by, read_by, help_by, mistaken_by, none_found}
use Rattle.wh_command_line.proofs.command_line.parse.Goals as goal

program_is_simple : is_simple program ≡ true
unfolding clap_on_literals program
program_is_simple = refl

-- the first of each pair that is made
first_made : {B : Type 0} (made : Option B) (f : B → Text) (g : B → List Row)
    → option_map f made ≡ option_map (λ (p : Text × List Row). p.0) (option_map (λ b. (f b, g b)) made)
first_made None f g = refl
first_made (Some b) f g = refl

-- a name and rows that were found are those that the words name
named_by : (words : List Text) (name : Text) (rows : List Row) (found : Option (Text × List Row)) → IsRead words
    → Some name ≡ option_map (λ (p : Text × List Row). p.0) found → Some rows ≡ option_map (λ (p : Text × List Row). p.1) found
    → found ≡ subcommand_of program words → Names words name rows
named_by words name rows None read of_name of_rows is_found = absurd cc
named_by words name rows (Some p) read of_name of_rows is_found =
    let same_name : p.0 ≡ name = cc in
    let same_rows : p.1 ≡ rows = cc in
    (read, sym is_found ∙ ap₂ (λ (a : Text) (b : List Row). Some (a, b)) same_name same_rows)

pub returns-clause-asked : goal.returns-clause-asked
returns-clause-asked c =
    let matched = c.in-Ok.ensures.matches (ap is_simple c.in_ok-command.ensures ∙ program_is_simple) in
    let found = matched.1 ∙ ap (λ app. subcommand_of app (map string_bytes c.args.words.now)) c.in_ok-command.ensures in
    let read = read_by _ _ c.in_ok-command.ensures (c.in-Ok.ensures.kinds (ap is_simple_and_free c.in_ok-command.ensures ∙ program_is_free)) in
    let named = named_by _ _ _ _ read (c.in-Some.ensures.name ∙ first_made _ _ _) c.in-Some.ensures.rows found in
    IfOk-weaker c.plan_of.result _ _ (λ plan given. inr (_, _, named, given)) c.plan_of.ensures.given

pub returns-clause-few : goal.returns-clause-few
returns-clause-few c = λ few.
    let matched = c.in-Ok.ensures.matches (ap is_simple c.in_ok-command.ensures ∙ program_is_simple) in
    let found = matched.1 ∙ ap (λ app. subcommand_of app (map string_bytes c.args.words.now)) c.in_ok-command.ensures in
    let read = read_by _ _ c.in_ok-command.ensures (c.in-Ok.ensures.kinds (ap is_simple_and_free c.in_ok-command.ensures ∙ program_is_free)) in
    let named = named_by _ _ _ _ read (c.in-Some.ensures.name ∙ first_made _ _ _) c.in-Some.ensures.rows found in
    (_, _, named, c.plan_of.ensures.few few)

pub returns-in-Err-clause-asked : goal.returns-in-Err-clause-asked
returns-in-Err-clause-asked c =
    let has = kinds_by _ _ c.in-Err.error c.in_ok-command.ensures (c.in-Err.ensures.kinds (ap is_simple_and_free c.in_ok-command.ensures ∙ program_is_free)) in
    help_by _ _ has c.plan_or_refusal.result c.plan_or_refusal.ensures.help c.plan_or_refusal.ensures.asked

pub returns-in-Err-clause-bad : goal.returns-in-Err-clause-bad
returns-in-Err-clause-bad c =
    let has = kinds_by _ _ c.in-Err.error c.in_ok-command.ensures (c.in-Err.ensures.kinds (ap is_simple_and_free c.in_ok-command.ensures ∙ program_is_free)) in
    IfErr-weaker c.plan_or_refusal.result _ _ (if_bad_then _ _ (λ mistake. inl (mistaken_by _ _ has mistake))) c.plan_or_refusal.ensures.bad

pub returns-in_default-clause-bad : goal.returns-in_default-clause-bad
returns-in_default-clause-bad c =
    let matched = c.in-Ok.ensures.matches (ap is_simple c.in_ok-command.ensures ∙ program_is_simple) in
    let found = matched.1 ∙ ap (λ app. subcommand_of app (map string_bytes c.args.words.now)) c.in_ok-command.ensures in
    let read = read_by _ _ c.in_ok-command.ensures (c.in-Ok.ensures.kinds (ap is_simple_and_free c.in_ok-command.ensures ∙ program_is_free)) in
    if_bad _ c.no_command.result (inr (inl (read, sym found ∙ none_found _ c.in_default.ensures.rows)))

pub returns-clause-bad : goal.returns-clause-bad
returns-clause-bad c =
    let matched = c.in-Ok.ensures.matches (ap is_simple c.in_ok-command.ensures ∙ program_is_simple) in
    let found = matched.1 ∙ ap (λ app. subcommand_of app (map string_bytes c.args.words.now)) c.in_ok-command.ensures in
    let read = read_by _ _ c.in_ok-command.ensures (c.in-Ok.ensures.kinds (ap is_simple_and_free c.in_ok-command.ensures ∙ program_is_free)) in
    let named = named_by _ _ _ _ read (c.in-Some.ensures.name ∙ first_made _ _ _) c.in-Some.ensures.rows found in
    IfErr-weaker c.plan_of.result _ _ (if_bad_then _ _ (λ bad. inr (inr (_, _, named, bad)))) c.plan_of.ensures.bad
