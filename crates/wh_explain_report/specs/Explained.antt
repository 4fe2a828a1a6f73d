-- What a file that is explained gives.
use Rattle.std.specs.Prelude.{◌≡◌, ℕ, Bool, true, false, List, [], ◌++◌, Option, Some, None, if◌then◌else◌, unwrap_or}
use Rattle.std.specs.Io.KnownBytes.{Appends}
use Rattle.wh_workflow.specs.Law.{Program}
use Rattle.wh_tester.specs.Report.{all_good, line_text}
use Rattle.wh_tester.specs.UnknownTypes.{is_no_code}
use Rattle.wh_tester.specs.declared.line.Line.{Line}
use Rattle.wh_explain.specs.Reading.{IsExplanationIn}
use Rattle.wh_explain_report.specs.Json.{json_explanation, last_object}
use Rattle.wh_explain_report.specs.Explanations.{explanation_text}
use Rattle.wh_view.specs.Views.{IsViewIn}
use Rattle.wh_view.specs.declared.view.View.{View}
use Rattle.wh_console.specs.declared.selection.Selection.{Selection}
use Rattle.wh_console.specs.declared.selection.Selection.TheVariants.{All}
use Rattle.wh_view_json.specs.Objects.{view_objects}
use Rattle.wh_view_report.specs.Views.{text_of}
use Rattle.wh_explain.specs.declared.explanation.Explanation.{Explanation}
use Rattle.wh_explained_tasks.specs.declared.Pairing.{Pairing}
use Rattle.wh_console.specs.declared.format.Format.{Format}
use Rattle.wh_console.specs.declared.format.Format.TheVariants.{Text, Json}

-- the explanation of the tasks that are selected, or of those that matter, as text or as JSON
abbrev pub explanation_as : Option Selection → Format → Explanation → List ℕ
explanation_as selection Json explanation = json_explanation selection explanation
explanation_as selection Text explanation = explanation_text selection explanation

-- the line of a file in the report of replay, as text, or as JSON with the difference that its tasks end in, if they do
abbrev pub line_as : Format → Line → Option Pairing → List ℕ
line_as Json line difference = last_object line difference
line_as Text line difference = line_text line

-- the view of the tasks that are selected, as text or as JSON; if none are, of all tasks, in the text of which those that
-- repeat others are folded
abbrev pub view_as : Option Selection → Format → View → List ℕ
view_as selection Json view = view_objects view (unwrap_or selection All)
view_as selection Text view = text_of view selection

-- the view, if there is one
abbrev pub viewed_as : Option Selection → Format → Option View → List ℕ
viewed_as selection format None = []
viewed_as selection format (Some view) = view_as selection format view

-- the explanation, the line of the file, and the view after them, if there is one
abbrev pub explained_as : Option Selection → Format → Explanation → Line → Option View → List ℕ
explained_as selection format explanation line view =
    explanation_as selection format explanation
    ++ (line_as format line explanation.difference ++ viewed_as selection format view)

-- there is a view of the bytes if the workflow type is not registered
abbrev pub IsViewedIf : (uncoded : Bool) → List ℕ → Option View → Type 0
IsViewedIf false bytes view = view ≡ None
IsViewedIf true bytes view = (own : View) × (view ≡ Some own) × IsViewIn bytes own

-- a file was explained, and this is its line in the report of replay: its explanation was written, with this line, and
-- with what is recorded in the file if its workflow type is not registered
pub record IsExplained {S : Type 0} (program : Program S) (name bytes : List ℕ) (selection : Option Selection)
    (format : Format) (old new : Option (List ℕ)) (own : Line) : Type 0 where
  pub explanation : Explanation
  pub view : Option View
  pub found : IsExplanationIn program bytes explanation
  pub named : own.name ≡ name
  pub verdict : own.verdict ≡ explanation.verdict
  pub viewed : IsViewedIf (is_no_code explanation.verdict) bytes view
  pub written : Appends old new (explained_as selection format explanation own view)

-- 0 if each file is good, and else 1
abbrev pub status_of : List Line → ℕ
status_of lines = if all_good lines then 0 else 1
