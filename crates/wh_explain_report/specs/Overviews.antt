-- What an overview of histories shows of a run and of all runs, as text or as JSON.
use Rattle.std.specs.Prelude.{ℕ, List, Option}
use Rattle.wh_console.specs.declared.format.Format.{Format}
use Rattle.wh_console.specs.declared.format.Format.TheVariants.{Text, Json}
use Rattle.wh_view.specs.declared.view.RunStatus.{RunStatus}
use Rattle.wh_view.specs.declared.view.View.{View}
use Rattle.wh_explain_report.specs.RunCounts.{counts_line, counts_object}
use Rattle.wh_explain_report.specs.RunLines.{run_line}
use Rattle.wh_explain_report.specs.RunObjects.{run_object}

-- the line of the run in the file of this name
abbrev pub run_as : Format → (name : List ℕ) → View → List ℕ
run_as Json name view = run_object name view
run_as Text name view = run_line name view

-- the line of how many runs have each status
abbrev pub counts_as : Format → List (Option RunStatus) → List ℕ
counts_as Json statuses = counts_object statuses
counts_as Text statuses = counts_line statuses
