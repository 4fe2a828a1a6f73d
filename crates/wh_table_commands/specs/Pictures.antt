-- What the page of a table shows, and its status.
use Rattle.std.specs.Prelude.{◌≡◌, ℕ, [], ◌∷◌}
use Rattle.wh_console.specs.Consoles.{ConsoleView}
use Rattle.wh_diagnostics.specs.Printing.{HasPrinted}
use Rattle.wh_file_faults.specs.Faults.{File}
use Rattle.wh_html.specs.Html.{bytes}
use Rattle.wh_table_check.specs.Checks.{status_of}
use Rattle.wh_table_commands.specs.declared.files.TableFile.{TableFile}
use Rattle.wh_table_commands.specs.Checks.{IsCheckOf}
use Rattle.wh_table_commands.specs.Files.{table_of}
use Rattle.wh_table_picture.specs.Drawings.{drawing_of}
use Rattle.wh_table_picture.specs.Pages.{page_html}
use Rattle.wh_table_picture.specs.declared.drawing.Drawing.{Drawing}
use Rattle.wh_table_text.specs.declared.tables.TableReading.{TableReading}

-- what the page of the table in a file shows: what one reading of it found, and the result of its check
pub record IsDrawingOf (file : TableFile) (drawing : Drawing) : Type 0 where
  pub reading : TableReading
  pub checked : IsCheckOf file reading drawing.checked
  pub is : drawing ≡ drawing_of reading drawing.checked

-- the table in a file was read and checked, and its page was written; the status is that of the check
pub record HasDrawn (file : File) (old new : ConsoleView) (status : ℕ) : Type 0 where
  pub drawing : Drawing
  pub drawn : IsDrawingOf (table_of file) drawing
  pub printed : HasPrinted (bytes (page_html drawing)) (status_of (drawing.checked ∷ [])) old new status
