-- Steps of an overview.
use Rattle.std.specs.Prelude.{◌≡◌, ◌⊎◌, None, Option}
use Rattle.wh_console.specs.Consoles.{ConsoleView, IsQuiet, Printed}
use Rattle.wh_console.specs.declared.format.Format.{Format}
use Rattle.wh_diagnostics.specs.declared.failures.Failure.{Failure}
use Rattle.wh_diagnostics.specs.declared.failures.Failure.TheVariants.{Output}
use Rattle.wh_file_commands.specs.Overviews.{IsInLine, no_history_as}
use Rattle.wh_view.specs.declared.view.RunStatus.{RunStatus}

-- that a file has no history was written
pub record IsToldFailure (format : Format) (failure : Failure) (old new : ConsoleView) (status : Option RunStatus)
    : Type 0 where
  pub told : IsInLine failure
  pub run : status ≡ None
  pub printed : Printed old new (no_history_as format failure)

-- or that is not written: it can't be, or the failure is another one, and the console is as it was
pub record IsUntoldFailure (failure : Failure) (old new : ConsoleView) (given : Failure) : Type 0 where
  pub quiet : IsQuiet old new
  pub why : (given ≡ Output) ⊎ ((IsInLine failure → ⊥) × (given ≡ failure) × (new ≡ old))
