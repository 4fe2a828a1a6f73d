-- What a plan asks for, and what came of it.
use Rattle.std.specs.Prelude.{◌≡◌, ℕ, codes}
use Rattle.wh_command_line.specs.declared.command_line.Plan.{Plan}
use Rattle.wh_command_line.specs.declared.command_line.Plan.TheVariants.{Check, Picture, Try, Help}
use Rattle.wh_console.specs.Consoles.{ConsoleView, IsQuiet}
use Rattle.wh_console.specs.Inputs.{IsReadFrom}
use Rattle.wh_diagnostics.specs.Failures.{IsWriteFailure}
use Rattle.wh_diagnostics.specs.Files.{HasCarriedOut, IsNotCarriedOut}
use Rattle.wh_diagnostics.specs.Listings.{AtPaths, FailsAtPaths}
use Rattle.wh_diagnostics.specs.Printing.{HasPrinted, IsRefused}
use Rattle.wh_diagnostics.specs.Walks.{HasBrokenOff, HasWalked}
use Rattle.wh_diagnostics.specs.declared.failures.Failure.{Failure}
use Rattle.wh_diagnostics.specs.declared.failures.Failure.TheVariants.{Output}
use Rattle.wh_diagnostics.specs.Commands.{HasLacked}
use Rattle.wh_table_commands.specs.Checks.{checks}
use Rattle.wh_table_commands.specs.Pictures.{HasDrawn}
use Rattle.wh_table_commands.specs.Trials.{trials}

-- what a plan asks for was done, or that the program lacks its command was reported
abbrev pub Obeys : Plan → (old new : ConsoleView) → (status : ℕ) → Type 0
Obeys (Check file more format) old new status =
    AtPaths (HasWalked (checks format) IsReadFrom) file more.items old new status
Obeys (Picture file) old new status = HasCarriedOut IsReadFrom HasDrawn file old new status
Obeys (Try file more scenario format) old new status =
    AtPaths (HasWalked (trials scenario format) IsReadFrom) file more.items old new status
Obeys (Help text) old new status = HasPrinted text 0 old new status
Obeys _ old new status = HasLacked (codes "the commands check and try") old new status

-- what a plan asks for failed: paths can't be listed, or `check` or `try` broke off; all else reported nothing, and a
-- picture wrote nothing unless the output failed
abbrev pub IsUndone : Plan → (old new : ConsoleView) → Failure → Type 0
IsUndone (Check file more format) old new failure =
    FailsAtPaths (HasBrokenOff (checks format) IsReadFrom) file more.items old new failure
IsUndone (Picture file) old new failure =
    IsRefused old new failure × IsNotCarriedOut IsReadFrom (λ own. IsWriteFailure) file failure
IsUndone (Try file more scenario format) old new failure =
    FailsAtPaths (HasBrokenOff (trials scenario format) IsReadFrom) file more.items old new failure
IsUndone (Help text) old new failure = IsQuiet old new × (failure ≡ Output)
IsUndone _ old new failure = ⊥
