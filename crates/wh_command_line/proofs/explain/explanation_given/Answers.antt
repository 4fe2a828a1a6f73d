use Rattle.std.proofs.Common.{◌≡◌, ◌≢◌, ◌⊎◌, ◌∙◌, true, List, [], codes, inl, inr, subst, Option, None}
use Rattle.std.proofs.lemmas.Result.{err_from_is_err_and, IfErr-weaker}
use Rattle.clap.specs.Words.{Row, Text, found_of, rows_of}
use Rattle.wh_console.specs.declared.format.Format.{Format}
use Rattle.wh_console.specs.declared.format.Format.TheVariants as formats
use Rattle.wh_console.specs.declared.selection.Selection.{Selection}
use Rattle.wh_command_line.specs.Explanations.{GivesHtml, GivesSelection, LacksExplanation}
use Rattle.wh_command_line.specs.Given.{GivesFlag, GivesFormat, GivesPaths}
use Rattle.wh_command_line.proofs.Reasons.{if_bad_then}
use Rattle.wh_command_line.proofs.explain.explanation_given.Goals as goal

-- what a page does not allow is one of the reasons to refuse the rows
page_lacks : (rows : List Row) (file : Text) (more seen : List Text) (format : Format) (selection : Option Selection)
    → GivesPaths rows file more → seen ≡ more → GivesFormat rows format → GivesSelection rows selection → GivesHtml rows true
    → (format ≡ formats.Json) ⊎ ((selection ≢ None) ⊎ (seen ≢ [])) → LacksExplanation rows
page_lacks rows file more seen format selection paths same given selects html (inl json) =
    inr (inr (inl (html, inl (subst (λ f. GivesFormat rows f) json given))))
page_lacks rows file more seen format selection paths same given selects html (inr (inl some)) =
    inr (inr (inl (html, inr (inl (selection, selects, some)))))
page_lacks rows file more seen format selection paths same given selects html (inr (inr others)) =
    inr (inr (inl (html, inr (inr (file, more, paths, λ none. others (same ∙ none))))))

pub returns-in_err-selection-clause-bad : goal.returns-in_err-selection-clause-bad
returns-in_err-selection-clause-bad c =
    let p = err_from_is_err_and c.from_residual-in_err-selection.result c.from_residual-in_err-selection.ensures.1 in
    rw (p.1, p.2) (if_bad_then _ _ (λ lacks. inr (inl lacks)) c.in_err-selection.field-0.0 c.in_err-selection.ensures.bad)

pub returns-then-flag_given-clause-bad : goal.returns-then-flag_given-clause-bad
returns-then-flag_given-clause-bad c =
    let rows = rows_of (found_of c.args.given.now) in
    let html : GivesHtml rows true = subst (λ f. GivesFlag (codes "html") rows f) c.if-flag_given.true c.flag_given.ensures in
    IfErr-weaker c.page_plan.result _ _
    (if_bad_then _ _ (page_lacks rows c.in_ok-file.file c.in_ok-file.more.items c.as_slice.result.now c.format_given-format.result c.in_ok-selection.selection
    c.in_ok-file.ensures.given c.as_slice.ensures.value c.format_given-format.ensures c.in_ok-selection.ensures.given html))
    c.page_plan.ensures.bad
