-- Polls that fail in a row.
use Rattle.std.specs.Prelude.{◌≡◌, ℕ}
use Rattle.wh_notes.specs.Waits.{wait_after, waits}
use Rattle.wh_notes.specs.declared.troubles.Trouble.{Trouble}

-- this many polls have failed in a row, and the worker has waited after each
pub record HasFailed (count : ℕ) (trouble : Trouble) : Type 0 where
  pub wait : trouble.wait ≡ wait_after count
  pub pauses : trouble.pauses.items ≡ waits count
