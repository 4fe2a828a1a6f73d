-- The line of an input in an overview.
use Rattle.std.proofs.Common.{◌≡◌, ℕ, List, ap, inl, inr, refl, sym, subst}
use Rattle.std.specs.Prelude.{◌⊎◌, Option, Some, None, Result, Ok, Err, IfErr, IfOk, OnOk, string_bytes}
use Rattle.wh_console.specs.Consoles.{ConsoleView, IsQuiet, Printed}
use Rattle.wh_console.specs.declared.files.Input.{Input}
use Rattle.wh_console.specs.declared.files.Reason.{Reason}
use Rattle.wh_console.specs.declared.format.Format.{Format}
use Rattle.wh_diagnostics.proofs.Walked.{untouched}
use Rattle.wh_diagnostics.specs.Failures.{IsWriteFailure}
use Rattle.wh_diagnostics.specs.Printing.{IsRefused}
use Rattle.wh_diagnostics.specs.Readings.{Gives, IsReadAs}
use Rattle.wh_diagnostics.specs.Walks.{IsTold}
use Rattle.wh_diagnostics.specs.declared.failures.Failure.{Failure}
use Rattle.wh_diagnostics.specs.declared.failures.Failure.TheVariants.{BadLine, BadArguments, FewSlots, BadInput, Unreadable, NotJson, NotViewed, NotText, BadPolicies, Output, OutOfMemory}
use Rattle.wh_explain_report.specs.Overviews.{run_as}
use Rattle.wh_file_commands.specs.Overviews.{IsInLine, TellsFile, TellsInput, no_history_as, unread_as}
use Rattle.wh_file_commands.specs.Private.Told.{IsToldFailure, IsUntoldFailure}
use Rattle.wh_file_commands.specs.Refusals.{IsUnshown}
use Rattle.wh_file_faults.specs.Faults.{File}
use Rattle.wh_view.specs.Runs.{status_of}
use Rattle.wh_view.specs.Views.{IsViewIn}
use Rattle.wh_view.specs.declared.view.RunStatus.{RunStatus}
use Rattle.wh_view.specs.declared.view.View.{View}

abbrev Answer : Type 0
Answer = Result (Option RunStatus) Failure

-- the output failed
pub output_refused : {T : Type 0} (old new : ConsoleView) (answer : Result T Failure)
    → IsQuiet old new → IfErr answer (λ failure. failure ≡ Output) → IfErr answer (IsRefused old new)
output_refused old new (Ok value) quiet failed = tt
output_refused old new (Err failure) quiet failed = record { quiet = quiet; unwritten = λ other. absurd (other failed) }

pub output_why : {T : Type 0} (answer : Result T Failure) → IfErr answer (λ failure. failure ≡ Output) → IfErr answer IsWriteFailure
output_why (Ok value) failed = tt
output_why (Err failure) failed = inl failed

-- the line of a history was written
pub history_told : (file : File) (name seen : List ℕ) (view : View) (format : Format) (old new : ConsoleView) (answer : Answer)
    → name ≡ string_bytes file.0 → seen ≡ file.1.items → IsViewIn seen view
    → OnOk answer (Printed old new (run_as format name view)) → IfOk answer (λ status. status ≡ Some (status_of view.events))
    → IfOk answer (IsTold (TellsFile file format) old new)
history_told file name seen view format old new (Ok status) named same viewed printed run = record {
  text = run_as format name view;
  tells = inl (view, subst (λ l. IsViewIn l view) same viewed, run, ap (λ n. run_as format n view) named);
  printed = printed;
}
history_told file name seen view format old new (Err failure) named same viewed printed run = tt

-- a failure that has no line: it can't be written, or there was no memory
out_of_line : (file : File) (failure : Failure) → (IsInLine failure → ⊥) → IsUnshown file failure → IsWriteFailure failure
out_of_line file (NotJson name detail) untold h = absurd (untold tt)
out_of_line file (NotViewed name fault) untold h = absurd (untold tt)
out_of_line file (BadLine text) untold h = absurd h
out_of_line file BadArguments untold h = absurd h
out_of_line file FewSlots untold h = absurd h
out_of_line file BadInput untold h = absurd h
out_of_line file (Unreadable dir entry reason) untold h = absurd h
out_of_line file (NotText name) untold h = absurd h
out_of_line file (BadPolicies name reason) untold h = absurd h
out_of_line file Output untold h = inl refl
out_of_line file OutOfMemory untold h = inr refl

-- the line of a file that has no history was written
pub no_history_told : (file : File) (failure : Failure) (format : Format) (old new : ConsoleView) (answer : Answer)
    → IsUnshown file failure → IfOk answer (IsToldFailure format failure old new)
    → IfOk answer (IsTold (TellsFile file format) old new)
no_history_told file failure format old new (Ok status) unshown told = record {
  text = no_history_as format failure;
  tells = inr (failure, told.told, unshown, told.run, refl);
  printed = told.printed;
}
no_history_told file failure format old new (Err given) unshown told = tt

-- or it was not
pub no_history_refused : (failure : Failure) (old new : ConsoleView) (answer : Answer)
    → IfErr answer (IsUntoldFailure failure old new) → IfErr answer (IsRefused old new)
no_history_refused failure old new (Ok status) untold = tt
no_history_refused failure old new (Err given) untold = by untold.why
  where
    by : (given ≡ Output) ⊎ ((IsInLine failure → ⊥) × (given ≡ failure) × (new ≡ old)) → IsRefused old new given
    by (inl is) = record { quiet = untold.quiet; unwritten = λ other. absurd (other is) }
    by (inr h) = subst (λ c. IsRefused old c given) (sym h.2) (untouched old given)

pub no_history_why : (file : File) (failure : Failure) (old new : ConsoleView) (answer : Answer)
    → IsUnshown file failure → IfErr answer (IsUntoldFailure failure old new) → IfErr answer IsWriteFailure
no_history_why file failure old new (Ok status) unshown untold = tt
no_history_why file failure old new (Err given) unshown untold = by untold.why
  where
    by : (given ≡ Output) ⊎ ((IsInLine failure → ⊥) × (given ≡ failure) × (new ≡ old)) → IsWriteFailure given
    by (inl is) = inl is
    by (inr h) = subst IsWriteFailure (sym h.1) (out_of_line file failure h.0 unshown)

-- the line of an input that was read was written
pub file_told : (gives : Gives) (input : Input) (file : File) (format : Format) (old new : ConsoleView) (answer : Answer)
    → IsReadAs gives input file → IfOk answer (IsTold (TellsFile file format) old new)
    → IfOk answer (IsTold (TellsInput gives input format) old new)
file_told gives input file format old new (Ok status) read told =
    record { text = told.text; tells = inl (file, read, told.tells); printed = told.printed }
file_told gives input file format old new (Err failure) read told = tt

-- so was that of one that can't be read
pub unread_told : (gives : Gives) (input : Input) (name : List ℕ) (reason : Reason) (format : Format) (old new : ConsoleView) (answer : Answer)
    → name ≡ string_bytes input.name
    → OnOk answer (Printed old new (unread_as format name reason)) → IfOk answer (λ status. status ≡ None)
    → IfOk answer (IsTold (TellsInput gives input format) old new)
unread_told gives input name reason format old new (Ok status) named printed run =
    record { text = unread_as format name reason; tells = inr (reason, run, ap (λ n. unread_as format n reason) named); printed = printed }
unread_told gives input name reason format old new (Err failure) named printed run = tt
