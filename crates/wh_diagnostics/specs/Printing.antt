-- What a command prints, and its status.
use Rattle.std.specs.Prelude.{◌≡◌, ◌≢◌, ℕ, List, Bool, Result, Err, if◌then◌else◌}
use Rattle.std.specs.Io.KnownBytes.{Keeps}
use Rattle.wh_console.specs.Consoles.{ConsoleView, IsQuiet, Printed}
use Rattle.wh_diagnostics.specs.declared.failures.Failure.{Failure}
use Rattle.wh_diagnostics.specs.declared.failures.Failure.TheVariants.{Output, OutOfMemory as NoMemory}
use Rattle.wh_file_faults.specs.declared.command_fault.CommandFault.{CommandFault}
use Rattle.wh_file_faults.specs.declared.command_fault.CommandFault.TheVariants.{OutOfMemory}

-- a text was written, nothing was reported, and this is the status
pub record HasPrinted (text : List ℕ) (given : ℕ) (old new : ConsoleView) (status : ℕ) : Type 0 where
  pub printed : Printed old new text
  pub ends : status ≡ given

-- nothing was reported, and nothing was written unless the output failed
pub record IsRefused (old new : ConsoleView) (failure : Failure) : Type 0 where
  pub quiet : IsQuiet old new
  pub unwritten : failure ≢ Output → Keeps old.output new.output

-- 1 if files are missing, and the status of the command otherwise
abbrev pub status_with : Bool → ℕ → ℕ
status_with lacks status = if lacks then 1 else status

-- why a command that gave an answer has no full report: there was no memory, or what it wrote can't be written
abbrev pub unflushed : Result ℕ CommandFault → Failure
unflushed (Err OutOfMemory) = NoMemory
unflushed _ = Output
