-- What is reported if there is no full report.
use Rattle.std.proofs.Common.{◌≡◌, [], sym, subst}
use Rattle.std.specs.Prelude.{Bool, true, false, if◌then◌else◌}
use Rattle.wh_diagnostics.specs.declared.failures.Failure.{Failure}
use Rattle.wh_diagnostics.specs.Endings.{no_report_text, is_closed_pipe}
use Rattle.wh_diagnostics.specs.Diagnostics.{failed_text}
use Rattle.wh_console.specs.Consoles.{ConsoleView, Reported}
use Rattle.wh_console.proofs.Printing.{nothing_reported}

-- nothing is reported on a closed pipe
pub nothing_said : (console : ConsoleView) (failure : Failure) (closed : Bool)
    → is_closed_pipe failure closed ≡ true → Reported console console (no_report_text failure closed)
nothing_said console failure closed is =
    subst (λ closes. Reported console console (λ name. if closes then [] else failed_text failure name)) (sym is) (nothing_reported console)

-- else why there is no full report is reported
pub why_said : (old new : ConsoleView) (failure : Failure) (closed : Bool)
    → is_closed_pipe failure closed ≡ false → Reported old new (failed_text failure) → Reported old new (no_report_text failure closed)
why_said old new failure closed is said =
    subst (λ closes. Reported old new (λ name. if closes then [] else failed_text failure name)) (sym is) said
