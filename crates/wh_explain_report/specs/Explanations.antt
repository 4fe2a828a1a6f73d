-- The text of an explanation.
use Rattle.std.specs.Prelude.{ℕ, List, ◌++◌, Option}
use Rattle.wh_console.specs.declared.selection.Selection.{Selection}
use Rattle.wh_tester.specs.Report.{is_good}
use Rattle.wh_tester.specs.UnknownTypes.{unregistered_type}
use Rattle.wh_explain.specs.declared.explanation.Explanation.{Explanation}
use Rattle.wh_explain_report.specs.TaskTexts.{chosen_text}
use Rattle.wh_explain_report.specs.Texts.{unknown_line}

-- the text of an explanation: the workflow type, if it is not registered, and the tasks in their order
unfoldable pub explanation_text : Option Selection → Explanation → List ℕ
explanation_text selection explanation =
    unknown_line (unregistered_type explanation.verdict) ++ chosen_text selection (is_good explanation.verdict) explanation.tasks
