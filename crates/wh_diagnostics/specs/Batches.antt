-- What is reported of progress between batches of files, and what is left where there is no report of them.
use Rattle.std.specs.Prelude.{◌≡◌, ◌≢◌, ◌≤◌, ◌⊎◌, ℕ, zero, suc, ◌-◌, ◌*◌, ◌/◌, max, List, [], ◌++◌, take, length, Bool}
use Rattle.wh_console.specs.Consoles.{ConsoleView, IsQuiet, Reported}
use Rattle.wh_diagnostics.specs.Failures.{IsReportFailure}
use Rattle.wh_diagnostics.specs.ProgressLines.{end_text, line_text, progress_of}
use Rattle.wh_diagnostics.specs.declared.failures.Failure.{Failure}
use Rattle.wh_diagnostics.specs.declared.failures.Failure.TheVariants.{Output}
use Rattle.wh_diagnostics.specs.declared.progress_modes.ProgressMode.{ProgressMode}
use Rattle.wh_diagnostics.specs.declared.progress_modes.ProgressMode.TheVariants.{Hidden}

-- how many of so many files are in a batch: 64, or a twentieth of them if that is more
abbrev pub batch_size : ℕ → ℕ
batch_size total = max 64 (total / 20)

-- after how many batches progress is reported: after each but the last
abbrev pub reported_batches : ProgressMode → ℕ → ℕ
reported_batches Hidden total = 0
reported_batches _ total = (total - 1) / batch_size total

-- what is reported after the first batches of so many files, where those that are done have a fault or not
abbrev pub reports_after : ProgressMode → (total : ℕ) → (faulty : List Bool) → (batches : ℕ) → List ℕ → List ℕ
reports_after mode total faulty zero name = []
reports_after mode total faulty (suc batches) name =
    reports_after mode total faulty batches name
    ++ line_text mode (progress_of total (take (suc batches * batch_size total) faulty)) name

-- what is reported of files in all, where each has a fault or not
abbrev pub reports_of : ProgressMode → (faulty : List Bool) → List ℕ → List ℕ
reports_of mode faulty name =
    reports_after mode (length faulty) faulty (reported_batches mode (length faulty)) name
    ++ end_text mode (reported_batches mode (length faulty)) name

-- so many batches of inputs are done, or all inputs are and every report of progress was made
abbrev pub AreDone : {T : Type 0} → ProgressMode → (inputs front : List T) → (batches : ℕ) → Type 0
AreDone mode inputs front batches =
    (front ≡ take (batches * batch_size (length inputs)) inputs)
    ⊎ ((front ≡ inputs) × (batches ≡ reported_batches mode (length inputs)))

-- something was made of the first batches of inputs, perhaps of none or of all, and progress was reported after each of
-- these batches but the last of all
pub record HasStopped {T A : Type 0} (Are : List T → A → Type 0) (faulty : A → List Bool) (mode : ProgressMode)
    (inputs : List T) (old new : ConsoleView) : Type 0 where
  pub front : List T
  pub made : A
  pub found : Are front made
  pub batches : ℕ
  pub few : batches ≤ reported_batches mode (length inputs)
  pub done : AreDone mode inputs front batches
  pub reported : Reported old new (reports_after mode (length inputs) (faulty made) batches)

-- the same, and then what erases a line that may stand there was written
pub record HasStoppedWhole {T A : Type 0} (Are : List T → A → Type 0) (faulty : A → List Bool) (mode : ProgressMode)
    (inputs : List T) (old new : ConsoleView) : Type 0 where
  pub between : ConsoleView
  pub stopped : HasStopped Are faulty mode inputs old between
  pub erased : Reported between new (end_text mode (reported_batches mode (length inputs)))

-- there is no report of what was made of inputs: progress was reported after some batches of them, perhaps none, what
-- erases a line of it was written, and nothing more was reported; if the output failed, it was made of all inputs
-- before, and all of progress was reported; otherwise nothing was written either
pub record LacksReport {T A : Type 0} (Are : List T → A → Type 0) (faulty : A → List Bool) (mode : ProgressMode)
    (inputs : List T) (old new : ConsoleView) (failure : Failure) : Type 0 where
  pub between : ConsoleView
  pub stopped : HasStoppedWhole Are faulty mode inputs old between
  pub whole : failure ≡ Output → (made : A) × Are inputs made × Reported old between (reports_of mode (faulty made))
  pub quiet : IsQuiet between new
  pub unwritten : failure ≢ Output → new ≡ between
  pub why : IsReportFailure failure
