-- What a plan asks for, and what came of it.
use Rattle.std.specs.Prelude.{◌≡◌, ℕ, List, codes}
use Rattle.wh_command_line.specs.Options.{sizes_of}
use Rattle.wh_command_line.specs.declared.command_line.Plan.{Plan}
use Rattle.wh_command_line.specs.declared.command_line.Plan.TheVariants.{Serve, Help}
use Rattle.wh_console.specs.Consoles.{ConsoleView, IsQuiet}
use Rattle.wh_diagnostics.specs.Printing.{HasPrinted}
use Rattle.wh_diagnostics.specs.declared.failures.Failure.{Failure}
use Rattle.wh_diagnostics.specs.declared.failures.Failure.TheVariants.{Output}
use Rattle.wh_diagnostics.specs.Commands.{HasLacked}
use Rattle.wh_service_command.specs.Commands.{HasNotServedFolder, HasServedFolder}
use Rattle.wh_workflow.specs.Law.{Program}

-- what a plan asks for was done, or that the program lacks its command was reported
abbrev pub Obeys : {S : Type 0} → Program S → (types : List ℕ) → Plan → (old new : ConsoleView) → (status : ℕ)
    → Type 0
Obeys program types (Serve dir options required progress) old new status =
    HasServedFolder program types dir (sizes_of options) required progress old new status
Obeys program types (Help text) old new status = HasPrinted text 0 old new status
Obeys program types _ old new status = HasLacked (codes "the command serve") old new status

-- what a plan asks for failed; what `serve` left, its own definition says
abbrev pub IsUndone : {S : Type 0} → Program S → Plan → (old new : ConsoleView) → Failure → Type 0
IsUndone program (Serve dir options required progress) old new failure =
    HasNotServedFolder program dir progress old new failure
IsUndone program (Help text) old new failure = IsQuiet old new × (failure ≡ Output)
IsUndone program _ old new failure = ⊥
