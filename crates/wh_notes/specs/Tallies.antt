-- How often a source fails.
use Rattle.std.specs.Prelude.{ℕ, ◌+◌, ◌-◌, ◌^◌, min, Bool, true, false, Result, Ok, Err, if◌then◌else◌}
use Rattle.wh_client.specs.declared.asking.AskFault.{AskFault}
use Rattle.wh_client.specs.declared.codes.PollEnd.{PollEnd}
use Rattle.wh_client.specs.declared.codes.PollEnd.TheVariants.{Closed, Never, Later}
use Rattle.wh_client.specs.declared.codes.Receipt.{Receipt}
use Rattle.wh_client.specs.declared.codes.Receipt.TheVariants as receipt
use Rattle.wh_notes.specs.Polls.{end_of}
use Rattle.wh_notes.specs.Sums.{together}
use Rattle.wh_notes.specs.declared.results.PollResult.{PollResult}
use Rattle.wh_notes.specs.declared.results.PollResult.TheVariants.{Task, Empty, Settled, Lost}
use Rattle.wh_notes.specs.declared.tallies.Tally.{Tally}

-- it has not failed
abbrev pub no_failures : Tally
no_failures = record { failures = 0; faults = 0 }

-- how often two sources have failed
abbrev pub sum_of : Tally → Tally → Tally
sum_of one other = record {
  failures = together one.failures other.failures;
  faults = together one.faults other.faults;
}

-- one more, at most 2^64 - 1
abbrev pub one_more : ℕ → ℕ
one_more n = min (n + 1) (2 ^ 64 - 1)

-- the tally after a failed call, and whether it failed while the bridge was open
abbrev pub with_failure : Bool → Tally → Tally
with_failure is_fault tally =
    record tally {
      failures = one_more tally.failures;
      faults = if is_fault then one_more tally.faults else tally.faults;
    }

-- the tally after a task that was given up
abbrev pub with_lost_task : Tally → Tally
with_lost_task tally = record tally { faults = one_more tally.faults }

-- the tally after an answer and its result: an answer that does not count as taken is a failure, unless there was no
-- memory, and a lost one is a fault
abbrev pub settled : Receipt → Tally → Tally
settled receipt.Acknowledged tally = tally
settled receipt.Discarded tally = tally
settled receipt.NotFound tally = tally
settled receipt.Invalid tally = tally
settled receipt.Withheld tally = tally
settled receipt.Replaced tally = with_failure false tally
settled receipt.Cut tally = with_failure false tally
settled receipt.Lost tally = with_failure true tally
settled receipt.NoMemory tally = tally

-- the tally after a failed poll, by what follows: one after which polling fails for good is a fault
abbrev pub with_end : PollEnd → Tally → Tally
with_end Closed tally = tally
with_end Later tally = tally
with_end Never tally = with_failure true tally

-- the tally after a poll, by its result or the fault
abbrev pub with_result : {A : Type 0} → Result (PollResult A) AskFault → Tally → Tally
with_result (Ok (Task task)) tally = tally
with_result (Ok Empty) tally = tally
with_result (Ok Settled) tally = tally
with_result (Ok (Lost text)) tally = with_lost_task tally
with_result (Err fault) tally = with_end (end_of fault) tally
