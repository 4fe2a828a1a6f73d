-- Which failures the faults of inputs and commands are.
use Rattle.std.specs.Prelude.{◌≡◌, ◌⊎◌, string_bytes}
use Rattle.wh_diagnostics.specs.declared.failures.Failure.{Failure}
use Rattle.wh_diagnostics.specs.declared.failures.Failure.TheVariants as failures
use Rattle.wh_file_faults.specs.declared.command_fault.CommandFault.{CommandFault}
use Rattle.wh_file_faults.specs.declared.command_fault.CommandFault.TheVariants as faults
use Rattle.wh_console.specs.declared.files.InputFault.{InputFault}
use Rattle.wh_console.specs.declared.files.InputFault.TheVariants.{Unreadable, OutOfMemory}

-- why an input can't be read: its folder or file, the entry of the folder, and the reason, or there was no memory
abbrev pub input_failure : InputFault → Failure
input_failure (Unreadable path entry reason) = failures.Unreadable (string_bytes path) entry reason
input_failure OutOfMemory = failures.OutOfMemory

-- why a command has no report: it can't be written, or there was no memory
abbrev pub command_failure : CommandFault → Failure
command_failure faults.Output = failures.Output
command_failure faults.OutOfMemory = failures.OutOfMemory

-- why an input can't be read: its folder or file can't be, or there was no memory
abbrev pub IsReadFailure : Failure → Type 0
IsReadFailure (failures.Unreadable dir entry reason) = Unit {0}
IsReadFailure failures.OutOfMemory = Unit {0}
IsReadFailure _ = ⊥

-- why there is no full report of inputs: one can't be read, the report can't be written, or there was no memory
abbrev pub IsReportFailure : Failure → Type 0
IsReportFailure failures.Output = Unit {0}
IsReportFailure failure = IsReadFailure failure

-- why what a command made is not written: it can't be, or there was no memory
abbrev pub IsWriteFailure : Failure → Type 0
IsWriteFailure failure = (failure ≡ failures.Output) ⊎ (failure ≡ failures.OutOfMemory)
