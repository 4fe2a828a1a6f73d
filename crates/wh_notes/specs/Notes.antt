-- What is counted of all that a source has noted.
use Rattle.std.specs.Prelude.{ℕ, ◌&&◌, Bool, true, false, List, map, count_by, sum_by, max, if◌then◌else◌}
use Rattle.std.specs.List.{fold}
use Rattle.wh_client.specs.declared.answers.AnswerKind.{AnswerKind}
use Rattle.wh_client.specs.declared.answers.AnswerKind.TheVariants.{WorkflowCompletion, WorkflowFailure, ActivityCompletion, ActivityFailure}
use Rattle.wh_client.specs.declared.answers.SentAnswer.{SentAnswer}
use Rattle.wh_client.specs.declared.codes.Receipt.{Receipt}
use Rattle.wh_client.specs.declared.codes.Receipt.TheVariants.{Acknowledged, Discarded, NotFound, Invalid, Withheld, Replaced, Cut, Lost, NoMemory}
use Rattle.wh_client.specs.declared.notes.PollOutcome.{PollOutcome}
use Rattle.wh_client.specs.declared.notes.PollOutcome.TheVariants.{Empty, Task, Failure}
use Rattle.wh_client.specs.declared.notes.SourceNote.{SourceNote}
use Rattle.wh_client.specs.declared.notes.SourceNote.TheVariants.{Poll, Answer}
use Rattle.wh_metrics.specs.declared.metrics.TaskTimes.{TaskTimes}
use Rattle.wh_notes.specs.Counts.{counts_together, no_source_counts}
use Rattle.wh_notes.specs.Sums.{at_most}
use Rattle.wh_notes.specs.Untaken.{completes}
use Rattle.wh_notes.specs.declared.counts.SourceCounts.{SourceCounts}

-- ---- Polls

abbrev pub is_empty : PollOutcome → Bool
is_empty Empty = true
is_empty Task = false
is_empty Failure = false

-- the note is one of a poll
abbrev pub is_poll : SourceNote → Bool
is_poll (Poll outcome) = true
is_poll (Answer answer) = false

-- of a poll that was empty
abbrev pub is_empty_poll : SourceNote → Bool
is_empty_poll (Poll outcome) = is_empty outcome
is_empty_poll (Answer answer) = false

-- ---- What became of answers

-- the server took it
abbrev pub is_accepted : Receipt → Bool
is_accepted Acknowledged = true
is_accepted Discarded = true
is_accepted NotFound = false
is_accepted Invalid = false
is_accepted Withheld = false
is_accepted Replaced = false
is_accepted Cut = false
is_accepted Lost = false
is_accepted NoMemory = false

-- the server no longer had its task
abbrev pub is_not_found : Receipt → Bool
is_not_found Acknowledged = false
is_not_found Discarded = false
is_not_found NotFound = true
is_not_found Invalid = false
is_not_found Withheld = false
is_not_found Replaced = false
is_not_found Cut = false
is_not_found Lost = false
is_not_found NoMemory = false

-- the server refused it as invalid
abbrev pub is_invalid : Receipt → Bool
is_invalid Acknowledged = false
is_invalid Discarded = false
is_invalid NotFound = false
is_invalid Invalid = true
is_invalid Withheld = false
is_invalid Replaced = false
is_invalid Cut = false
is_invalid Lost = false
is_invalid NoMemory = false

-- it was refused for another reason, or its call got no response
abbrev pub is_lost : Receipt → Bool
is_lost Acknowledged = false
is_lost Discarded = false
is_lost NotFound = false
is_lost Invalid = false
is_lost Withheld = false
is_lost Replaced = false
is_lost Cut = true
is_lost Lost = true
is_lost NoMemory = true

-- it was never sent
abbrev pub is_unsent : Receipt → Bool
is_unsent Acknowledged = false
is_unsent Discarded = false
is_unsent NotFound = false
is_unsent Invalid = false
is_unsent Withheld = true
is_unsent Replaced = true
is_unsent Cut = false
is_unsent Lost = false
is_unsent NoMemory = false

-- it was not taken, and completes its task
abbrev pub is_untaken_completion : Receipt → AnswerKind → Bool
is_untaken_completion Acknowledged kind = false
is_untaken_completion Discarded kind = false
is_untaken_completion NotFound kind = completes kind
is_untaken_completion Invalid kind = completes kind
is_untaken_completion Withheld kind = false
is_untaken_completion Replaced kind = false
is_untaken_completion Cut kind = false
is_untaken_completion Lost kind = false
is_untaken_completion NoMemory kind = false

-- ---- Notes of answers

-- the note is one of an answer
abbrev pub is_answer : SourceNote → Bool
is_answer (Poll outcome) = false
is_answer (Answer answer) = true

-- of an answer with such a receipt
abbrev pub is_answer_with : (Receipt → Bool) → SourceNote → Bool
is_answer_with test (Poll outcome) = false
is_answer_with test (Answer answer) = test answer.receipt

-- of a completion that was not taken
abbrev pub is_untaken : SourceNote → Bool
is_untaken (Poll outcome) = false
is_untaken (Answer answer) = is_untaken_completion answer.receipt answer.kind

-- ---- Times

-- the answer is one to a workflow task
abbrev pub is_of_workflow : AnswerKind → Bool
is_of_workflow WorkflowCompletion = true
is_of_workflow WorkflowFailure = true
is_of_workflow ActivityCompletion = false
is_of_workflow ActivityFailure = false

-- the answer is one to an activity task
abbrev pub is_of_activity : AnswerKind → Bool
is_of_activity WorkflowCompletion = false
is_of_activity WorkflowFailure = false
is_of_activity ActivityCompletion = true
is_of_activity ActivityFailure = true

-- the note is one of an answer of such a kind that the server took
abbrev pub is_taken_for : (AnswerKind → Bool) → SourceNote → Bool
is_taken_for test (Poll outcome) = false
is_taken_for test (Answer answer) = is_accepted answer.receipt && test answer.kind

abbrev pub microseconds_of : SourceNote → ℕ
microseconds_of (Poll outcome) = 0
microseconds_of (Answer answer) = answer.microseconds

-- how long the task of the note took, if the server took such an answer to it
abbrev pub time_for : (AnswerKind → Bool) → SourceNote → ℕ
time_for test note = if is_taken_for test note then microseconds_of note else 0

-- how long the tasks took whose answers of such kinds the server took
abbrev pub times_for : (AnswerKind → Bool) → List SourceNote → TaskTimes
times_for test notes = record {
  count = at_most (count_by (is_taken_for test) notes);
  sum = at_most (sum_by (time_for test) notes);
  longest = fold max 0 (map (time_for test) notes);
}

-- ---- All counts

-- what is counted of all that was noted
abbrev pub counts_of : List SourceNote → SourceCounts
counts_of notes = record {
  polls = at_most (count_by is_poll notes);
  empty_polls = at_most (count_by is_empty_poll notes);
  untaken = record {
    not_found = at_most (count_by (is_answer_with is_not_found) notes);
    invalid = at_most (count_by (is_answer_with is_invalid) notes);
    lost = at_most (count_by (is_answer_with is_lost) notes);
    completions = at_most (count_by is_untaken notes);
  };
  workflow_times = times_for is_of_workflow notes;
  activity_times = times_for is_of_activity notes;
}

-- ---- Several sources

-- what several sources have counted, by what each has noted
abbrev pub all_counts : {S : Type 0} → (S → List SourceNote) → List S → SourceCounts
all_counts noted sources = fold (λ counts source. counts_together counts (counts_of (noted source))) no_source_counts sources
