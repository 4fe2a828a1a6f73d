-- Work on inputs of which there is no report.
use Rattle.std.proofs.Common.{◌≡◌, List, refl, sym, subst}
use Rattle.std.specs.Prelude.{Bool, Result, Ok, Err, IfErr}
use Rattle.std.specs.Result.{IsErrAnd}
use Rattle.wh_console.specs.Consoles.{ConsoleView, IsQuiet, Reported}
use Rattle.wh_console.specs.declared.files.InputFault.{InputFault}
use Rattle.wh_diagnostics.proofs.Batched.{whole_after_all, HasAMarkEach}
use Rattle.wh_diagnostics.proofs.ReadFailures.{input_fails_to_read, unread_unreported}
use Rattle.wh_diagnostics.specs.Batches.{reports_of, HasStoppedWhole, LacksReport}
use Rattle.wh_diagnostics.specs.Failures.{input_failure, IsReadFailure, IsReportFailure}
use Rattle.wh_diagnostics.specs.declared.failures.Failure.{Failure}
use Rattle.wh_diagnostics.specs.declared.failures.Failure.TheVariants.{Output}
use Rattle.wh_diagnostics.specs.declared.progress_modes.ProgressMode.{ProgressMode}

-- the work stopped before there was anything to write
pub lacks_after_stop : {T A : Type 0} (Are : List T → A → Type 0) (faulty : A → List Bool) (mode : ProgressMode) (inputs : List T)
    (old new : ConsoleView) (failure : Failure)
    → HasStoppedWhole Are faulty mode inputs old new
    → IsReadFailure failure
    → LacksReport Are faulty mode inputs old new failure
lacks_after_stop Are faulty mode inputs old new failure stopped why = record {
  between = new;
  stopped = stopped;
  whole = λ is. absurd (subst IsReadFailure is why);
  quiet = record { named = refl; errors = refl; whole = refl };
  unwritten = λ other. refl;
  why = unread_unreported failure why;
}

-- so it is where an input can't be read
pub lacks_unread : {T A R : Type 0} (Are : List T → A → Type 0) (faulty : A → List Bool) (mode : ProgressMode) (inputs : List T)
    (old new : ConsoleView) (fault : InputFault) (answer : Result R Failure)
    → HasStoppedWhole Are faulty mode inputs old new
    → IsErrAnd answer (λ failure. failure ≡ input_failure fault)
    → IfErr answer (LacksReport Are faulty mode inputs old new)
lacks_unread Are faulty mode inputs old new fault (Ok value) stopped is = tt
lacks_unread Are faulty mode inputs old new fault (Err failure) stopped is =
    lacks_after_stop Are faulty mode inputs old new failure stopped (subst IsReadFailure (sym is) (input_fails_to_read fault))

-- or the output failed after all was worked on
pub lacks_for_output : {T A : Type 0} (Are : List T → A → Type 0) (faulty : A → List Bool) (mode : ProgressMode) (inputs : List T)
    (made : A) (old between new : ConsoleView) (failure : Failure)
    → HasAMarkEach Are faulty
    → Are inputs made
    → Reported old between (reports_of mode (faulty made))
    → (failure ≡ Output) × IsQuiet between new
    → LacksReport Are faulty mode inputs old new failure
lacks_for_output Are faulty mode inputs made old between new failure many found told cut = record {
  between = between;
  stopped = whole_after_all Are faulty mode inputs made old between many found told;
  whole = λ output. (made, found, told);
  quiet = cut.1;
  unwritten = λ other. absurd (other cut.0);
  why = subst IsReportFailure (sym cut.0) tt;
}
