-- What is reported if there is no full report, and the status then.
use Rattle.std.specs.Prelude.{◌≡◌, ℕ, List, [], Bool, false, if◌then◌else◌}
use Rattle.wh_console.specs.Consoles.{ConsoleView, Reported}
use Rattle.wh_diagnostics.specs.Diagnostics.{failed_text}
use Rattle.wh_diagnostics.specs.declared.failures.Failure.{Failure}
use Rattle.wh_diagnostics.specs.declared.failures.Failure.TheVariants.{Output}

-- the failure is that of a closed pipe: the standard output can't be written, since its reader closed it
abbrev pub is_closed_pipe : Failure → Bool → Bool
is_closed_pipe Output closed = closed
is_closed_pipe _ closed = false

-- the text that says why there is no full report; none for the failure of a closed pipe
abbrev pub no_report_text : Failure → Bool → List ℕ → List ℕ
no_report_text failure closed name = if is_closed_pipe failure closed then [] else failed_text failure name

-- a failure was reported, unless it is that of a closed pipe, and the status is 2
pub record HasFailed (failure : Failure) (old new : ConsoleView) (status : ℕ) : Type 0 where
  pub reported : Reported old new (no_report_text failure new.closed)
  pub ends : status ≡ 2
