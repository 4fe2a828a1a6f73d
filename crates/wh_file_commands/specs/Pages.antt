-- What is written of the page of a file.
use Rattle.std.specs.Prelude.{ℕ, Bool, string_bytes}
use Rattle.wh_console.specs.Consoles.{ConsoleView, IsQuiet}
use Rattle.wh_file_faults.specs.Faults.{File}
use Rattle.wh_file_page.specs.Pages.{IsPaged}
use Rattle.wh_workflow.specs.Law.{Program}

-- the page of a file was written, and nothing reported
pub record HasPaged {S : Type 0} (program : Program S) (only_recorded : Bool) (file : File) (old new : ConsoleView)
    (status : ℕ) : Type 0 where
  pub quiet : IsQuiet old new
  pub paged : IsPaged program only_recorded (string_bytes file.0) file.1.items old.output new.output status
