-- What a plan asks for, and what came of it.
use Rattle.std.specs.Prelude.{◌≡◌, ℕ, List, codes}
use Rattle.wh_command_line.specs.declared.command_line.Plan.{Plan}
use Rattle.wh_command_line.specs.declared.command_line.Plan.TheVariants.{Explain, Page, View, Query, Help}
use Rattle.wh_console.specs.Consoles.{ConsoleView, IsQuiet}
use Rattle.wh_console.specs.Inputs.{IsReadFrom}
use Rattle.wh_diagnostics.specs.Failures.{IsWriteFailure}
use Rattle.wh_diagnostics.specs.Files.{HasCarriedOut, IsNotCarriedOut}
use Rattle.wh_diagnostics.specs.Listings.{AtPaths, FailsAtPaths, is_by_path}
use Rattle.wh_diagnostics.specs.Printing.{HasPrinted, IsRefused}
use Rattle.wh_diagnostics.specs.declared.failures.Failure.{Failure}
use Rattle.wh_diagnostics.specs.declared.failures.Failure.TheVariants.{Output}
use Rattle.wh_file_commands.specs.Explanations.{HasExplained}
use Rattle.wh_file_commands.specs.Pages.{HasPaged}
use Rattle.wh_file_commands.specs.Queries.{HasQueried, IsUnqueried}
use Rattle.wh_file_commands.specs.Recorded.{HasNotShown, HasShown}
use Rattle.wh_file_commands.specs.Refusals.{IsUnshown}
use Rattle.wh_diagnostics.specs.Commands.{HasLacked}
use Rattle.wh_file_commands.specs.QueryInputs.{query_of}
use Rattle.wh_workflow.specs.Queries.{Queries}
use Rattle.wh_workflow.specs.Law.{Program}

-- what a plan asks for was done, or that the program lacks its command was reported
abbrev pub Obeys : {S : Type 0} → Program S → Queries S → (types : List ℕ) → Plan → (old new : ConsoleView)
    → (status : ℕ) → Type 0
Obeys program queries types (Explain file selection format) old new status =
    HasCarriedOut IsReadFrom (HasExplained program selection format) file old new status
Obeys program queries types (Page file only_recorded) old new status =
    HasCarriedOut IsReadFrom (HasPaged program only_recorded) file old new status
Obeys program queries types (View file more selection format) old new status =
    AtPaths (HasShown IsReadFrom (is_by_path more.items) selection format) file more.items old new status
Obeys program queries types (Query file query_type input format) old new status =
    HasCarriedOut IsReadFrom (HasQueried program queries types (query_of query_type input.items) format) file
    old new status
Obeys program queries types (Help text) old new status = HasPrinted text 0 old new status
Obeys program queries types _ old new status = HasLacked (codes "the commands explain and query") old new status

-- what a plan asks for failed: an explanation and the help reported nothing; a page and a query also wrote nothing unless
-- the output failed; what a view left, its own definition says
abbrev pub IsUndone : Plan → (old new : ConsoleView) → Failure → Type 0
IsUndone (Explain file selection format) old new failure =
    IsQuiet old new × IsNotCarriedOut IsReadFrom (λ own. IsWriteFailure) file failure
IsUndone (Page file only_recorded) old new failure =
    IsRefused old new failure × IsNotCarriedOut IsReadFrom IsUnshown file failure
IsUndone (View file more selection format) old new failure =
    FailsAtPaths (HasNotShown IsReadFrom (is_by_path more.items) selection format) file more.items old new failure
IsUndone (Query file query_type input format) old new failure =
    IsRefused old new failure × IsUnqueried IsReadFrom (query_of query_type input.items) file failure
IsUndone (Help text) old new failure = IsQuiet old new × (failure ≡ Output)
IsUndone _ old new failure = ⊥
