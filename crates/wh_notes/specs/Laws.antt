-- What is counted adds up.
use Rattle.std.specs.Prelude.{◌≡◌, ℕ, ◌+◌, ◌^◌, ◌<◌, Bool, true, false, List, length, count_by, if◌then◌else◌}
use Rattle.wh_client.specs.declared.codes.Receipt.{Receipt}
use Rattle.wh_client.specs.declared.notes.PollOutcome.{PollOutcome}
use Rattle.wh_client.specs.declared.notes.PollOutcome.TheVariants.{Empty, Task, Failure}
use Rattle.wh_client.specs.declared.notes.SourceNote.{SourceNote}
use Rattle.wh_client.specs.declared.notes.SourceNote.TheVariants.{Poll, Answer}
use Rattle.wh_notes.specs.Notes.{is_answer_with, counts_of, is_accepted, is_answer, is_empty_poll, is_invalid, is_lost, is_not_found, is_of_activity, is_of_workflow, is_poll, is_taken_for, is_unsent, is_untaken}

abbrev pub as_number : Bool → ℕ
as_number b = if b then 1 else 0

-- an answer counts under exactly one outcome
abbrev pub AnswersCountOnce : Type 0
AnswersCountOnce = (receipt : Receipt) → as_number (is_accepted receipt) + as_number (is_not_found receipt)
    + as_number (is_invalid receipt) + as_number (is_lost receipt) + as_number (is_unsent receipt) ≡ 1

-- of fewer than 2^64 notes each count is the number of those that it is of
pub record HasCounts (notes : List SourceNote) : Type 0 where
  pub polls : (counts_of notes).polls ≡ count_by is_poll notes
  pub empty : (counts_of notes).empty_polls ≡ count_by is_empty_poll notes
  pub not_found : (counts_of notes).untaken.not_found ≡ count_by (is_answer_with is_not_found) notes
  pub invalid : (counts_of notes).untaken.invalid ≡ count_by (is_answer_with is_invalid) notes
  pub lost : (counts_of notes).untaken.lost ≡ count_by (is_answer_with is_lost) notes
  pub completions : (counts_of notes).untaken.completions ≡ count_by is_untaken notes
  pub workflows : (counts_of notes).workflow_times.count ≡ count_by (is_taken_for is_of_workflow) notes
  pub activities : (counts_of notes).activity_times.count ≡ count_by (is_taken_for is_of_activity) notes

abbrev pub CountsAreOfNotes : Type 0
CountsAreOfNotes = (notes : List SourceNote) → length notes < 2 ^ 64 → HasCounts notes

-- as many answers are counted as were noted, but for those that were never sent
abbrev pub AnswersAddUp : Type 0
AnswersAddUp = (notes : List SourceNote) → length notes < 2 ^ 64
    → count_by is_answer notes
    ≡ (counts_of notes).workflow_times.count + (counts_of notes).activity_times.count
    + (counts_of notes).untaken.not_found + (counts_of notes).untaken.invalid + (counts_of notes).untaken.lost
    + count_by (is_answer_with is_unsent) notes

abbrev pub is_task : PollOutcome → Bool
is_task Empty = false
is_task Task = true
is_task Failure = false

abbrev pub is_failure : PollOutcome → Bool
is_failure Empty = false
is_failure Task = false
is_failure Failure = true

-- the note is one of a poll with such an outcome
abbrev pub is_poll_with : (PollOutcome → Bool) → SourceNote → Bool
is_poll_with test (Poll outcome) = test outcome
is_poll_with test (Answer answer) = false

-- a poll is empty, or gave a task, or failed
abbrev pub PollsAddUp : Type 0
PollsAddUp = (notes : List SourceNote) → length notes < 2 ^ 64
    → (counts_of notes).polls
    ≡ (counts_of notes).empty_polls + count_by (is_poll_with is_task) notes + count_by (is_poll_with is_failure) notes
