-- What is counted adds up.
use Rattle.std.proofs.Common.{◌≡◌, ◌∙◌, ℕ, ◌+◌, ◌<◌, ◌≤◌, ◌^◌, ◌∷◌, [], List, Bool, true, false, cond, length, refl, arith}
use Rattle.std.proofs.lemmas.List.Sums.{count_by-le-length, sum_by-cons}
use Rattle.std.specs.Prelude.{◌&&◌, count_by}
use Rattle.wh_client.specs.declared.answers.AnswerKind.{AnswerKind}
use Rattle.wh_client.specs.declared.answers.AnswerKind.TheVariants.{WorkflowCompletion, WorkflowFailure, ActivityCompletion, ActivityFailure}
use Rattle.wh_client.specs.declared.codes.Receipt.{Receipt}
use Rattle.wh_client.specs.declared.codes.Receipt.TheVariants.{Acknowledged, Discarded, NotFound, Invalid, Withheld, Replaced, Cut, Lost, NoMemory}
use Rattle.wh_client.specs.declared.notes.PollOutcome.TheVariants.{Empty, Task, Failure}
use Rattle.wh_client.specs.declared.notes.SourceNote.{SourceNote}
use Rattle.wh_client.specs.declared.notes.SourceNote.TheVariants.{Poll, Answer}
use Rattle.wh_notes.specs.Laws.{AnswersAddUp, AnswersCountOnce, CountsAreOfNotes, HasCounts, PollsAddUp, is_poll_with, is_failure, is_task}
use Rattle.wh_notes.specs.Notes.{is_answer_with, is_accepted, is_answer, is_empty_poll, is_invalid, is_lost, is_not_found, is_of_activity, is_of_workflow, is_poll, is_taken_for, is_unsent, is_untaken}
use Rattle.wh_notes.specs.Sums.{at_most}

pub answers_count_once : AnswersCountOnce
answers_count_once Acknowledged = refl
answers_count_once Discarded = refl
answers_count_once NotFound = refl
answers_count_once Invalid = refl
answers_count_once Withheld = refl
answers_count_once Replaced = refl
answers_count_once Cut = refl
answers_count_once Lost = refl
answers_count_once NoMemory = refl

within : (n m : ℕ) → n ≤ m → m < 2 ^ 64 → at_most n ≡ n
within n m few small = omega (arith, few, small)

-- a count of few notes is the number of those that it is of
counted : (test : SourceNote → Bool) (notes : List SourceNote) → length notes < 2 ^ 64
    → at_most (count_by test notes) ≡ count_by test notes
counted test notes small = within (count_by test notes) (length notes) (count_by-le-length test notes) small

pub counts_are_of_notes : CountsAreOfNotes
counts_are_of_notes notes small = record {
  polls = counted is_poll notes small;
  empty = counted is_empty_poll notes small;
  not_found = counted (is_answer_with is_not_found) notes small;
  invalid = counted (is_answer_with is_invalid) notes small;
  lost = counted (is_answer_with is_lost) notes small;
  completions = counted is_untaken notes small;
  workflows = counted (is_taken_for is_of_workflow) notes small;
  activities = counted (is_taken_for is_of_activity) notes small;
}

-- ---- Answers

abbrev number : Bool → ℕ
number b = cond b 1 0

-- a test of the first note, and then of the others
count_cons : (test : SourceNote → Bool) (note : SourceNote) (notes : List SourceNote)
    → count_by test (note ∷ notes) ≡ number (test note) + count_by test notes
count_cons test note notes = sum_by-cons (λ n. cond (test n) 1 0) note notes

answer_once : (receipt : Receipt) (kind : AnswerKind) → 1 ≡ number (is_accepted receipt && is_of_workflow kind)
    + number (is_accepted receipt && is_of_activity kind) + number (is_not_found receipt) + number (is_invalid receipt)
    + number (is_lost receipt) + number (is_unsent receipt)
answer_once Acknowledged WorkflowCompletion = refl
answer_once Acknowledged WorkflowFailure = refl
answer_once Acknowledged ActivityCompletion = refl
answer_once Acknowledged ActivityFailure = refl
answer_once Discarded WorkflowCompletion = refl
answer_once Discarded WorkflowFailure = refl
answer_once Discarded ActivityCompletion = refl
answer_once Discarded ActivityFailure = refl
answer_once NotFound kind = refl
answer_once Invalid kind = refl
answer_once Withheld kind = refl
answer_once Replaced kind = refl
answer_once Cut kind = refl
answer_once Lost kind = refl
answer_once NoMemory kind = refl

note_once : (note : SourceNote) → number (is_answer note) ≡ number (is_taken_for is_of_workflow note)
    + number (is_taken_for is_of_activity note) + number (is_answer_with is_not_found note) + number (is_answer_with is_invalid note)
    + number (is_answer_with is_lost note) + number (is_answer_with is_unsent note)
note_once (Poll outcome) = refl
note_once (Answer answer) = answer_once answer.receipt answer.kind

split_answers : (notes : List SourceNote) → count_by is_answer notes ≡ count_by (is_taken_for is_of_workflow) notes
    + count_by (is_taken_for is_of_activity) notes + count_by (is_answer_with is_not_found) notes
    + count_by (is_answer_with is_invalid) notes + count_by (is_answer_with is_lost) notes + count_by (is_answer_with is_unsent) notes
split_answers [] = refl
split_answers (note ∷ notes) =
    let one = note_once note in
    let rest = split_answers notes in
    let a = count_cons is_answer note notes in
    let b = count_cons (is_taken_for is_of_workflow) note notes in
    let c = count_cons (is_taken_for is_of_activity) note notes in
    let d = count_cons (is_answer_with is_not_found) note notes in
    let e = count_cons (is_answer_with is_invalid) note notes in
    let f = count_cons (is_answer_with is_lost) note notes in
    let g = count_cons (is_answer_with is_unsent) note notes in
    omega (arith, one, rest, a, b, c, d, e, f, g)

pub answers_add_up : AnswersAddUp
answers_add_up notes small =
    let has = counts_are_of_notes notes small in
    let all = split_answers notes in
    omega (arith, all, has.workflows, has.activities, has.not_found, has.invalid, has.lost)

-- ---- Polls

poll_once : (note : SourceNote)
    → number (is_poll note) ≡ number (is_empty_poll note) + number (is_poll_with is_task note) + number (is_poll_with is_failure note)
poll_once (Poll Empty) = refl
poll_once (Poll Task) = refl
poll_once (Poll Failure) = refl
poll_once (Answer answer) = refl

split_polls : (notes : List SourceNote) → count_by is_poll notes
    ≡ count_by is_empty_poll notes + count_by (is_poll_with is_task) notes + count_by (is_poll_with is_failure) notes
split_polls [] = refl
split_polls (note ∷ notes) =
    let one = poll_once note in
    let rest = split_polls notes in
    let a = count_cons is_poll note notes in
    let b = count_cons is_empty_poll note notes in
    let c = count_cons (is_poll_with is_task) note notes in
    let d = count_cons (is_poll_with is_failure) note notes in
    omega (arith, one, rest, a, b, c, d)

pub polls_add_up : PollsAddUp
polls_add_up notes small =
    let has = counts_are_of_notes notes small in
    let all = split_polls notes in
    omega (arith, all, has.polls, has.empty)
