-- The text of a view.
use Rattle.std.specs.Prelude.{ℕ, List, Option, Some, None}
use Rattle.wh_console.specs.declared.selection.Selection.{Selection}
use Rattle.wh_view.specs.declared.view.View.{View}
use Rattle.wh_view_report.specs.Folding.{folded_text}
use Rattle.wh_view_report.specs.Texts.{view_text}

-- the text with the tasks that are selected, or else with all of them, of which those that repeat others are folded
abbrev pub text_of : View → Option Selection → List ℕ
text_of view (Some selection) = view_text view selection
text_of view None = folded_text view
