-- What is printed.
use Rattle.std.proofs.Common.{◌≡◌, ◌∙◌, ℕ, List, refl, sym, subst}
use Rattle.std.specs.Prelude.{Result, Ok, Err, IfErr, IfOk, OnOk}
use Rattle.std.specs.Io.KnownBytes.{Keeps}
use Rattle.wh_console.proofs.Printing.{printed_kept, quiet_twice}
use Rattle.wh_console.specs.Consoles.{ConsoleView, IsQuiet, Printed}
use Rattle.wh_diagnostics.specs.Printing.{HasPrinted, IsRefused, unflushed}
use Rattle.wh_diagnostics.specs.declared.failures.Failure.{Failure}
use Rattle.wh_diagnostics.specs.declared.failures.Failure.TheVariants.{Output}
use Rattle.wh_file_faults.specs.declared.command_fault.CommandFault.{CommandFault}
use Rattle.wh_file_faults.specs.declared.command_fault.CommandFault.TheVariants as faults

-- a text was printed, and it is out
pub text_printed : (text : List ℕ) (given : ℕ) (old between new : ConsoleView) (answer : Result ℕ CommandFault) (result : Result ℕ Failure)
    → OnOk answer (Printed old between text) → IfOk answer (λ status. status ≡ given)
    → IsQuiet between new → Keeps between.output new.output → IfOk result (λ status. answer ≡ Ok status)
    → IfOk result (HasPrinted text given old new)
text_printed text given old between new (Ok own) (Ok status) printed ends quiet kept is =
    record { printed = printed_kept old between new text printed quiet kept; ends = (let same : own ≡ status = cc in sym same ∙ ends) }
text_printed text given old between new (Err fault) (Ok status) printed ends quiet kept is = absurd cc
text_printed text given old between new answer (Err failure) printed ends quiet kept is = tt

-- a fault of the writer is one of the output
pub writer_failed : (answer : Result ℕ CommandFault) (result : Result ℕ Failure)
    → IfErr answer (λ fault. fault ≡ faults.Output) → IfErr result (λ failure. failure ≡ unflushed answer)
    → IfErr result (λ failure. failure ≡ Output)
writer_failed answer (Ok status) is failed = tt
writer_failed (Ok given) (Err failure) is failed = failed
writer_failed (Err fault) (Err failure) is failed = failed ∙ subst (λ f. unflushed (Err f) ≡ Output) (sym is) refl

-- what was written can't be put out
pub output_failed : (old first new : ConsoleView) (result : Result ℕ Failure)
    → IsQuiet old first → IsQuiet first new → IfErr result (λ failure. failure ≡ Output)
    → IfErr result (IsRefused old new)
output_failed old first new (Ok status) quiet more failed = tt
output_failed old first new (Err failure) quiet more failed = record {
  quiet = quiet_twice old first new quiet more;
  unwritten = λ other. absurd (other failed);
}

-- there was nothing to write, or it can't be written or put out
pub answer_refused : (old first new : ConsoleView) (answer : Result ℕ CommandFault) (result : Result ℕ Failure)
    → IsQuiet old first → (answer ≡ Err faults.OutOfMemory → first.output ≡ old.output)
    → IsQuiet first new → Keeps first.output new.output
    → IfErr result (λ failure. failure ≡ unflushed answer)
    → IfErr result (IsRefused old new)
answer_refused old first new answer (Ok status) quiet same more kept failed = tt
answer_refused old first new (Ok own) (Err failure) quiet same more kept failed = record {
  quiet = quiet_twice old first new quiet more;
  unwritten = λ other. absurd (other failed);
}
answer_refused old first new (Err faults.Output) (Err failure) quiet same more kept failed = record {
  quiet = quiet_twice old first new quiet more;
  unwritten = λ other. absurd (other failed);
}
answer_refused old first new (Err faults.OutOfMemory) (Err failure) quiet same more kept failed = record {
  quiet = quiet_twice old first new quiet more;
  unwritten = λ other. subst (λ o. Keeps o new.output) (same refl) kept;
}

-- so it is with a fault
pub fault_flushed : (old first new : ConsoleView) (fault : CommandFault) (result : Result ℕ Failure)
    → IsQuiet old first → (fault ≡ faults.OutOfMemory → first.output ≡ old.output)
    → IsQuiet first new → Keeps first.output new.output
    → IfErr result (λ failure. failure ≡ unflushed (Err fault))
    → IfErr result (IsRefused old new)
fault_flushed old first new fault result quiet same more kept failed =
    answer_refused old first new (Err fault) result quiet (λ is. same (let own : fault ≡ faults.OutOfMemory = cc in own)) more kept failed
