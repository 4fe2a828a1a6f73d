-- What was shown of inputs, by the only one, if there is just that.
use Rattle.std.proofs.Common.{◌≡◌, ℕ, Bool, List, inl, inr, refl, sym, subst}
use Rattle.std.specs.Prelude.{Option, Some, None, Result, Ok, Err, IfErr, IfOk, IsOk}
use Rattle.std.specs.Result.{IsErrAnd}
use Rattle.wh_console.specs.Consoles.{ConsoleView}
use Rattle.wh_console.specs.declared.files.Input.{Input}
use Rattle.wh_console.specs.declared.files.InputFault.{InputFault}
use Rattle.wh_console.specs.declared.format.Format.{Format}
use Rattle.wh_console.specs.declared.selection.Selection.{Selection}
use Rattle.wh_diagnostics.proofs.ReadFailures.{input_fails_to_read}
use Rattle.wh_diagnostics.proofs.Walked.{untouched}
use Rattle.wh_diagnostics.specs.Failures.{IsReadFailure, input_failure}
use Rattle.wh_diagnostics.specs.Printing.{IsRefused}
use Rattle.wh_diagnostics.specs.Readings.{Gives, IsReadAs}
use Rattle.wh_diagnostics.specs.Walks.{HasWalked}
use Rattle.wh_diagnostics.specs.declared.failures.Failure.{Failure}
use Rattle.wh_file_commands.specs.Overviews.{overviews}
use Rattle.wh_file_commands.specs.Recorded.{HasNotShown, HasNotShownAll, HasNotShownInput, HasShown, only_input}
use Rattle.wh_file_commands.specs.Refusals.{IsUnshown}
use Rattle.wh_file_commands.specs.Views.{HasViewed}
use Rattle.wh_file_faults.specs.Faults.{File}

-- a history was shown
pub input_shown : (gives : Gives) (selection : Option Selection) (format : Format) (input : Input) (file : File) (old new : ConsoleView) (answer : Result ℕ Failure)
    → IsReadAs gives input file → IfOk answer (HasViewed selection format file old new)
    → IfOk answer (λ status. (own : File) × IsReadAs gives input own × HasViewed selection format own old new status)
input_shown gives selection format input file old new (Ok status) read viewed = (file, read, viewed)
input_shown gives selection format input file old new (Err failure) read viewed = tt

-- or it can't be read
pub input_unread : (gives : Gives) (input : Input) (console : ConsoleView) (fault : InputFault) (answer : Result ℕ Failure)
    → IsErrAnd answer (λ failure. failure ≡ input_failure fault)
    → IfErr answer (HasNotShownInput gives input console console)
input_unread gives input console fault (Ok status) is = tt
input_unread gives input console fault (Err failure) is =
    (untouched console failure, inl (subst IsReadFailure (sym is) (input_fails_to_read fault)))

-- or what it holds is not shown
pub input_unshown : (gives : Gives) (input : Input) (file : File) (old new : ConsoleView) (answer : Result ℕ Failure)
    → IsReadAs gives input file → IfErr answer (IsRefused old new) → IfErr answer (IsUnshown file)
    → IfErr answer (HasNotShownInput gives input old new)
input_unshown gives input file old new (Ok status) read refused why = tt
input_unshown gives input file old new (Err failure) read refused why = (refused, inr (file, read, why))

-- what was shown of just one input is what was shown
pub shown_single : (gives : Gives) (selection : Option Selection) (format : Format) (by_path : Bool) (inputs : List Input) (left_out : Bool) (input : Input) (old new : ConsoleView) (answer : Result ℕ Failure)
    → only_input by_path inputs ≡ Some input
    → IfOk answer (λ status. (file : File) × IsReadAs gives input file × HasViewed selection format file old new status)
    → IfOk answer (HasShown gives by_path selection format inputs left_out old new)
shown_single gives selection format by_path inputs left_out input old new (Ok status) single shown = inl (input, single, shown)
shown_single gives selection format by_path inputs left_out input old new (Err failure) single shown = tt

pub unshown_single : (gives : Gives) (selection : Option Selection) (format : Format) (by_path : Bool) (inputs : List Input) (input : Input) (old new : ConsoleView) (answer : Result ℕ Failure)
    → only_input by_path inputs ≡ Some input → IfErr answer (HasNotShownInput gives input old new)
    → IfErr answer (HasNotShown gives by_path selection format inputs old new)
unshown_single gives selection format by_path inputs input old new (Ok status) single unshown = tt
unshown_single gives selection format by_path inputs input old new (Err failure) single unshown = inl (input, single, unshown)

-- so is what was shown of others
pub shown_others : (gives : Gives) (selection : Option Selection) (format : Format) (by_path : Bool) (inputs others : List Input) (left_out : Bool) (old new : ConsoleView) (answer : Result ℕ Failure)
    → only_input by_path inputs ≡ None → others ≡ inputs → (IsOk answer → selection ≡ None)
    → IfOk answer (HasWalked (overviews format) gives others left_out old new)
    → IfOk answer (HasShown gives by_path selection format inputs left_out old new)
shown_others gives selection format by_path inputs others left_out old new (Ok status) single same unselected shown =
    inr (single, (unselected refl, subst (λ l. HasWalked (overviews format) gives l left_out old new status) same shown))
shown_others gives selection format by_path inputs others left_out old new (Err failure) single same unselected shown = tt

pub unshown_others : (gives : Gives) (selection : Option Selection) (format : Format) (by_path : Bool) (inputs others : List Input) (old new : ConsoleView) (answer : Result ℕ Failure)
    → only_input by_path inputs ≡ None → others ≡ inputs
    → IfErr answer (HasNotShownAll gives selection format others old new)
    → IfErr answer (HasNotShown gives by_path selection format inputs old new)
unshown_others gives selection format by_path inputs others old new (Ok status) single same unshown = tt
unshown_others gives selection format by_path inputs others old new (Err failure) single same unshown =
    inr (single, subst (λ l. HasNotShownAll gives selection format l old new failure) same unshown)
