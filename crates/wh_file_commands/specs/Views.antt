-- What is written of what is recorded in a file.
use Rattle.std.specs.Prelude.{ℕ, Option}
use Rattle.wh_console.specs.Consoles.{ConsoleView}
use Rattle.wh_console.specs.declared.format.Format.{Format}
use Rattle.wh_diagnostics.specs.Printing.{HasPrinted}
use Rattle.wh_file_faults.specs.Faults.{File}
use Rattle.wh_explain_report.specs.Explained.{view_as}
use Rattle.wh_view.specs.Views.{IsViewIn}
use Rattle.wh_view.specs.declared.view.View.{View as FileView}
use Rattle.wh_console.specs.declared.selection.Selection.{Selection}

-- the view of a file was written, and the status is 0
pub record HasViewed (selection : Option Selection) (format : Format) (file : File) (old new : ConsoleView) (status : ℕ)
    : Type 0 where
  pub view : FileView
  pub viewed : IsViewIn file.1.items view
  pub printed : HasPrinted (view_as selection format view) 0 old new status
