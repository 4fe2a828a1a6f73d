-- What the explanation of a file writes and reports.
use Rattle.std.specs.Prelude.{◌≡◌, ℕ, [], ◌∷◌, Option, string_bytes}
use Rattle.wh_console.specs.Consoles.{ConsoleView, IsQuiet, Reported}
use Rattle.wh_console.specs.declared.format.Format.{Format}
use Rattle.wh_file_faults.specs.DetailTexts.{detail_lines}
use Rattle.wh_file_faults.specs.Details.{IsUnreadDetail}
use Rattle.wh_file_faults.specs.Faults.{File}
use Rattle.wh_file_faults.specs.declared.detail.FaultDetail.{FaultDetail}
use Rattle.wh_explain_report.specs.Explained.{IsExplained, status_of}
use Rattle.wh_tester.specs.declared.line.Line.{Line}
use Rattle.wh_console.specs.declared.selection.Selection.{Selection}
use Rattle.wh_workflow.specs.Law.{Program}

-- a file was explained, and then where it is no JSON was reported if that is the verdict of the line that its
-- explanation has, and else nothing; the status is that of this line
pub record HasExplained {S : Type 0} (program : Program S) (selection : Option Selection) (format : Format)
    (file : File) (old new : ConsoleView) (status : ℕ) : Type 0 where
  pub between : ConsoleView
  pub line : Line
  pub detail : Option FaultDetail
  pub quiet : IsQuiet old between
  pub explained : IsExplained program (string_bytes file.0) file.1.items selection format old.output between.output line
  pub unread : IsUnreadDetail line.verdict file.1.items detail
  pub reported : Reported between new (detail_lines line.name detail)
  pub ends : status ≡ status_of (line ∷ [])
