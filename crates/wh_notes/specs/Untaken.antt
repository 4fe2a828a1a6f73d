-- Answers to tasks that the server did not take, and what counts of tasks are without them.
use Rattle.std.specs.Prelude.{ℕ, ◌-◌, Bool, true, false}
use Rattle.wh_client.specs.declared.answers.AnswerKind.{AnswerKind}
use Rattle.wh_client.specs.declared.answers.AnswerKind.TheVariants.{WorkflowCompletion, WorkflowFailure, ActivityCompletion, ActivityFailure}
use Rattle.wh_client.specs.declared.codes.Receipt.{Receipt}
use Rattle.wh_client.specs.declared.codes.Receipt.TheVariants as receipt
use Rattle.wh_notes.specs.Sums.{together}
use Rattle.wh_notes.specs.declared.untaken.UntakenAnswers.{UntakenAnswers}

-- there is none
abbrev pub none_untaken : UntakenAnswers
none_untaken = record { not_found = 0; invalid = 0; lost = 0; completions = 0 }

-- the answer completes its task
abbrev pub completes : AnswerKind → Bool
completes WorkflowCompletion = true
completes WorkflowFailure = false
completes ActivityCompletion = true
completes ActivityFailure = false

-- one more, if the answer completes its task
abbrev pub with_completion : (completes : Bool) → ℕ → ℕ
with_completion true completions = together completions 1
with_completion false completions = completions

-- an answer more, which completes its task or does not, and became this; one whose call got no response is lost
abbrev pub with_untaken : Receipt → (completes : Bool) → UntakenAnswers → UntakenAnswers
with_untaken receipt.NotFound completes answers = record answers {
  not_found = together answers.not_found 1;
  completions = with_completion completes answers.completions;
}
with_untaken receipt.Invalid completes answers = record answers {
  invalid = together answers.invalid 1;
  completions = with_completion completes answers.completions;
}
with_untaken receipt.Lost completes answers = record answers { lost = together answers.lost 1 }
with_untaken receipt.Cut completes answers = record answers { lost = together answers.lost 1 }
with_untaken receipt.NoMemory completes answers = record answers { lost = together answers.lost 1 }
with_untaken _ completes answers = answers

-- those of two sources
abbrev pub untaken_together : UntakenAnswers → UntakenAnswers → UntakenAnswers
untaken_together one other = record {
  not_found = together one.not_found other.not_found;
  invalid = together one.invalid other.invalid;
  lost = together one.lost other.lost;
  completions = together one.completions other.completions;
}

-- those that were refused, or got no response
abbrev pub refused_of : UntakenAnswers → ℕ
refused_of answers = together answers.invalid answers.lost

-- those that were not lost, and fail their task
abbrev pub failures_of : UntakenAnswers → ℕ
failures_of answers = together answers.not_found answers.invalid - answers.completions

-- the tasks that are completed, of those that the host counts as completed
abbrev pub completed_of : UntakenAnswers → (counted : ℕ) → ℕ
completed_of answers counted = counted - answers.completions

-- the tasks that have failed, of those that the host counts as failed
abbrev pub failed_of : UntakenAnswers → (counted : ℕ) → ℕ
failed_of answers counted = counted - together (failures_of answers) answers.lost
