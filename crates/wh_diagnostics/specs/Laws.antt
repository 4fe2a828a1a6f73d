-- What holds of the batches of any number of files, and of commands that read inputs one after the other.
use Rattle.std.specs.Prelude.{◌≡◌, ◌≢◌, ◌<◌, ◌≤◌, ℕ, suc, ◌*◌, List, []}
use Rattle.wh_console.specs.Consoles.{ConsoleView, IsQuiet}
use Rattle.wh_console.specs.declared.files.Input.{Input}
use Rattle.wh_diagnostics.specs.Batches.{batch_size, reported_batches}
use Rattle.wh_diagnostics.specs.Printing.{IsRefused}
use Rattle.wh_diagnostics.specs.Readings.{Gives}
use Rattle.wh_diagnostics.specs.Walks.{HasBrokenOff, Visits}
use Rattle.wh_diagnostics.specs.declared.failures.Failure.{Failure}
use Rattle.wh_diagnostics.specs.declared.progress_modes.ProgressMode.{ProgressMode}
use Rattle.wh_diagnostics.specs.declared.progress_modes.ProgressMode.TheVariants.{Hidden}

-- progress is never reported after the last file: the batches after which it is reported leave some files
abbrev pub ReportsEndEarly : Type 0
ReportsEndEarly = (mode : ProgressMode) (total : ℕ) → 0 < total → reported_batches mode total * batch_size total < total

-- unless it is hidden, progress is reported after each batch but the last: one batch more than those holds all files
abbrev pub BatchesHoldAllFiles : Type 0
BatchesHoldAllFiles =
    (mode : ProgressMode) (total : ℕ) → mode ≢ Hidden → total ≤ suc (reported_batches mode total) * batch_size total

-- progress is reported 20 times at most, however many files there are
abbrev pub ReportsAreFew : Type 0
ReportsAreFew = (mode : ProgressMode) (total : ℕ) → reported_batches mode total ≤ 20

-- a command that broke off reported nothing
abbrev pub BreaksOffQuietly : {K : Type 0} → Visits K → Gives → Type 0
BreaksOffQuietly visits gives =
    (inputs : List Input) (old new : ConsoleView) (failure : Failure)
    → HasBrokenOff visits gives inputs old new failure → IsQuiet old new

-- if it writes nothing of an input, it wrote nothing at all, unless the output failed
abbrev pub BreaksOffUnwritten : {K : Type 0} → Visits K → Gives → Type 0
BreaksOffUnwritten {K} visits gives =
    ((input : Input) (own : K) (text : List ℕ) → visits.tells gives input own text → text ≡ [])
    → (inputs : List Input) (old new : ConsoleView) (failure : Failure)
    → HasBrokenOff visits gives inputs old new failure → IsRefused old new failure
