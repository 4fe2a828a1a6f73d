-- What becomes of the tasks of a host without the answers that the server did not take.
use Rattle.std.specs.Prelude.{◌≡◌, ◌+◌, ◌≤◌, ◌<◌, ◌^◌}
use Rattle.wh_host.specs.declared.reply.Totals.{Totals}
use Rattle.wh_notes.specs.Untaken.{completed_of, failed_of, refused_of}
use Rattle.wh_notes.specs.declared.untaken.UntakenAnswers.{UntakenAnswers}

-- the totals of a host, in which no task counts as completed or failed whose answer was not taken
abbrev pub settled : Totals → UntakenAnswers → Totals
settled totals answers = record totals {
  completed = completed_of answers totals.completed;
  failed = failed_of answers totals.failed;
}

-- ---- Law

-- each of these answers was to a task of these totals: the host counts those tasks as completed that were completed by
-- an answer which was not lost, and all others as failed
pub record AreAnswersOf (totals : Totals) (answers : UntakenAnswers) : Type 0 where
  pub completions : answers.completions ≤ totals.completed
  pub among : answers.completions ≤ answers.not_found + answers.invalid
  pub others : answers.not_found + answers.invalid + answers.lost ≤ totals.failed + answers.completions

-- what becomes of tasks adds up: each task that was taken is completed, or has failed, or was not found, or its answer
-- was refused, or it is in hand
abbrev pub OutcomesAddUp : Type 0
OutcomesAddUp = (totals : Totals) (answers : UntakenAnswers) → AreAnswersOf totals answers
    → totals.taken < 2 ^ 64 → totals.taken ≡ totals.completed + totals.failed + totals.in_hand
    → totals.taken ≡ (settled totals answers).completed + (settled totals answers).failed + answers.not_found
    + refused_of answers + totals.in_hand
