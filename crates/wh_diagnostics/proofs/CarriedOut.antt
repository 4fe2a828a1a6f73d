-- What was done with the file at a path, and with inputs that were listed.
use Rattle.std.proofs.Common.{◌≡◌, ℕ, List, ◌∷◌, inr, subst, sym}
use Rattle.std.specs.Prelude.{Bool, Result, Ok, Err, IfErr, IfOk}
use Rattle.std.specs.Result.{IsErrAnd}
use Rattle.wh_console.specs.Consoles.{ConsoleView}
use Rattle.wh_diagnostics.proofs.ReadFailures.{input_fails_to_read}
use Rattle.wh_diagnostics.specs.Failures.{input_failure, IsReadFailure}
use Rattle.wh_diagnostics.specs.Files.{HasCarriedOut, IsFileAt, IsInputAt, IsNotCarriedOut, IsUnreadFile}
use Rattle.wh_diagnostics.specs.Listings.{AfterListing, AreListed, AtPaths, FailsAtPaths, is_by_path}
use Rattle.wh_diagnostics.specs.Readings.{Gives, IsReadAs}
use Rattle.wh_diagnostics.specs.declared.failures.Failure.{Failure}
use Rattle.wh_file_faults.specs.Faults.{File}
use Rattle.wh_console.specs.declared.files.Input.{Input}
use Rattle.wh_console.specs.declared.files.InputFault.{InputFault}

-- the input of a path was read
pub file_read : (gives : Gives) (path : List ℕ) (input : Input) (file : File) → IsInputAt path input → IsReadAs gives input file
    → IsFileAt gives path file
file_read gives path input file found read = record { input = input; found = found; read = read }

-- or it can't be
pub file_unread : {T : Type 0} (path : List ℕ) (input : Input) (fault : InputFault) (answer : Result T Failure)
    → IsInputAt path input → IsErrAnd answer (λ failure. failure ≡ input_failure fault) → IfErr answer (IsUnreadFile path)
file_unread path input fault (Ok value) found is = tt
file_unread path input fault (Err failure) found is =
    inr (record { input = input; found = found; why = subst IsReadFailure (sym is) (input_fails_to_read fault) })

-- this was done with a file that was read at a path
pub carried_out : (gives : Gives) (Own : File → (old new : ConsoleView) → (status : ℕ) → Type 0) (path : List ℕ) (file : File)
    (old new : ConsoleView) (answer : Result ℕ Failure)
    → IsFileAt gives path file → IfOk answer (Own file old new) → IfOk answer (HasCarriedOut gives Own path old new)
carried_out gives Own path file old new (Ok status) read done = record { file = file; read = read; done = done }
carried_out gives Own path file old new (Err failure) read done = tt

-- or this is why it was not
pub not_carried_out : (gives : Gives) (Fails : File → Failure → Type 0) (path : List ℕ) (file : File) (answer : Result ℕ Failure)
    → IsFileAt gives path file → IfErr answer (Fails file) → IfErr answer (IsNotCarriedOut gives Fails path)
not_carried_out gives Fails path file (Ok status) read why = tt
not_carried_out gives Fails path file (Err failure) read why = inr (record { file = file; read = read; why = why })

-- this was done with what was listed
pub done_listed : (Lists : List Input → Bool → (old new : ConsoleView) → Type 0)
    (Own : List Input → Bool → (old new : ConsoleView) → ℕ → Type 0)
    (inputs : List Input) (left_out : Bool) (old between new : ConsoleView) (answer : Result ℕ Failure)
    → Lists inputs left_out old between → IfOk answer (Own inputs left_out between new)
    → IfOk answer (AfterListing Lists Own old new)
done_listed Lists Own inputs left_out old between new (Ok status) listed done =
    record { inputs = inputs; left_out = left_out; between = between; listed = listed; done = done }
done_listed Lists Own inputs left_out old between new (Err failure) listed done = tt

-- or this is what came of it
pub failed_listed : (Lists : List Input → Bool → (old new : ConsoleView) → Type 0)
    (Fails : List Input → Bool → (old new : ConsoleView) → Failure → Type 0)
    (inputs : List Input) (left_out : Bool) (old between new : ConsoleView) (answer : Result ℕ Failure)
    → Lists inputs left_out old between → IfErr answer (Fails inputs left_out between new)
    → IfErr answer (AfterListing Lists Fails old new)
failed_listed Lists Fails inputs left_out old between new (Ok status) listed why = tt
failed_listed Lists Fails inputs left_out old between new (Err failure) listed why =
    record { inputs = inputs; left_out = left_out; between = between; listed = listed; done = why }

-- this was done with what paths name
pub done_at_paths : (Own : List Input → Bool → (old new : ConsoleView) → ℕ → Type 0)
    (first : List ℕ) (more : List (List ℕ)) (inputs : List Input) (left_out : Bool) (old between new : ConsoleView) (answer : Result ℕ Failure)
    → AreListed (is_by_path more) (first ∷ more) inputs left_out old between → IfOk answer (Own inputs left_out between new)
    → IfOk answer (AtPaths Own first more old new)
done_at_paths Own first more = done_listed (AreListed (is_by_path more) (first ∷ more)) Own

-- or this is what came of it
pub failed_at_paths : (Fails : List Input → (old new : ConsoleView) → Failure → Type 0)
    (first : List ℕ) (more : List (List ℕ)) (inputs : List Input) (left_out : Bool) (old between new : ConsoleView) (answer : Result ℕ Failure)
    → AreListed (is_by_path more) (first ∷ more) inputs left_out old between → IfErr answer (Fails inputs between new)
    → IfErr answer (FailsAtPaths Fails first more old new)
failed_at_paths Fails first more inputs left_out old between new (Ok status) listed why = tt
failed_at_paths Fails first more inputs left_out old between new (Err failure) listed why =
    inr (record { inputs = inputs; left_out = left_out; between = between; listed = listed; done = why })
