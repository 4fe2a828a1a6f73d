-- What is counted of notes, of which one comes after the other.
use Rattle.std.proofs.Common.{◌≡◌, ◌∙◌, ℕ, ◌+◌, ◌∷◌, ◌++◌, [], List, Bool, true, false, cond, map, max, ap, sym, refl, arith}
use Rattle.std.proofs.lemmas.List.{map-append}
use Rattle.std.proofs.lemmas.List.Sums.{fold_push, sum_by_push}
use Rattle.std.specs.List.{fold}
use Rattle.std.specs.Prelude.{◌&&◌, count_by, sum_by}
use Rattle.wh_client.specs.declared.answers.AnswerKind.{AnswerKind}
use Rattle.wh_client.specs.declared.answers.AnswerKind.TheVariants.{WorkflowCompletion, WorkflowFailure, ActivityCompletion, ActivityFailure}
use Rattle.wh_client.specs.declared.codes.Receipt.{Receipt}
use Rattle.wh_client.specs.declared.codes.Receipt.TheVariants.{Acknowledged, Discarded, NotFound, Invalid, Withheld, Replaced, Cut, Lost, NoMemory}
use Rattle.wh_client.specs.declared.notes.PollOutcome.TheVariants.{Empty, Task, Failure}
use Rattle.wh_client.specs.declared.notes.SourceNote.{SourceNote}
use Rattle.wh_client.specs.declared.notes.SourceNote.TheVariants.{Poll, Answer}
use Rattle.wh_metrics.specs.declared.metrics.TaskTimes.{TaskTimes}
use Rattle.wh_notes.specs.Counts.{with_note, with_receipt}
use Rattle.wh_notes.specs.Notes.{is_answer_with, counts_of, is_accepted, is_empty_poll, is_invalid, is_lost, is_not_found, is_of_activity, is_of_workflow, is_poll, is_taken_for, is_untaken, is_untaken_completion, microseconds_of, time_for, times_for}
use Rattle.wh_notes.specs.Sums.{at_most, together}
use Rattle.wh_notes.specs.Times.{lasted}
use Rattle.wh_notes.specs.declared.counts.SourceCounts.{SourceCounts}

-- ---- One note more, count by count

-- one more, if it is to be counted
abbrev pub one_more_if : Bool → ℕ → ℕ
one_more_if b n = cond b (together n 1) n

-- so many microseconds more, if they are to be counted
abbrev pub summed_if : Bool → ℕ → ℕ → ℕ
summed_if b microseconds n = cond b (together n microseconds) n

-- the longer time, if it is to be counted
abbrev pub longest_if : Bool → ℕ → ℕ → ℕ
longest_if b microseconds n = cond b (max n microseconds) n

one_more_case : (b : Bool) (old new : ℕ) → new ≡ old + cond b 1 0 → at_most new ≡ one_more_if b (at_most old)
one_more_case true old new is = omega (arith, is)
one_more_case false old new is = omega (arith, is)

summed_case : (b : Bool) (microseconds old new : ℕ) → new ≡ old + cond b microseconds 0
    → at_most new ≡ summed_if b microseconds (at_most old)
summed_case true microseconds old new is = omega (arith, is)
summed_case false microseconds old new is = omega (arith, is)

longest_case : (b : Bool) (microseconds old new : ℕ) → new ≡ max old (cond b microseconds 0)
    → new ≡ longest_if b microseconds old
longest_case true microseconds old new is = is
longest_case false microseconds old new is = omega (arith, is)

count_more : (test : SourceNote → Bool) (notes : List SourceNote) (note : SourceNote)
    → at_most (count_by test (notes ++ note ∷ [])) ≡ one_more_if (test note) (at_most (count_by test notes))
count_more test notes note =
    one_more_case (test note) (count_by test notes) (count_by test (notes ++ note ∷ []))
    (sum_by_push (λ n. cond (test n) 1 0) notes note)

sum_more : (kinds : AnswerKind → Bool) (notes : List SourceNote) (note : SourceNote)
    → at_most (sum_by (time_for kinds) (notes ++ note ∷ []))
    ≡ summed_if (is_taken_for kinds note) (microseconds_of note) (at_most (sum_by (time_for kinds) notes))
sum_more kinds notes note =
    summed_case (is_taken_for kinds note) (microseconds_of note) (sum_by (time_for kinds) notes)
    (sum_by (time_for kinds) (notes ++ note ∷ [])) (sum_by_push (time_for kinds) notes note)

longest_more : (kinds : AnswerKind → Bool) (notes : List SourceNote) (note : SourceNote)
    → fold max 0 (map (time_for kinds) (notes ++ note ∷ []))
    ≡ longest_if (is_taken_for kinds note) (microseconds_of note) (fold max 0 (map (time_for kinds) notes))
longest_more kinds notes note =
    longest_case (is_taken_for kinds note) (microseconds_of note) (fold max 0 (map (time_for kinds) notes))
    (fold max 0 (map (time_for kinds) (notes ++ note ∷ [])))
    (ap (fold max 0) (map-append (time_for kinds) notes (note ∷ []))
    ∙ fold_push max 0 (map (time_for kinds) notes) (time_for kinds note))

abbrev pub times_with : (count sum longest : ℕ) → TaskTimes
times_with count sum longest = record { count = count; sum = sum; longest = longest }

-- the times, with one more if it is to be counted
abbrev pub lasted_if : Bool → ℕ → TaskTimes → TaskTimes
lasted_if b microseconds times = cond b (lasted microseconds times) times

times_by_part : (b : Bool) (microseconds count sum longest : ℕ)
    → times_with (one_more_if b count) (summed_if b microseconds sum) (longest_if b microseconds longest)
    ≡ lasted_if b microseconds (times_with count sum longest)
times_by_part true microseconds count sum longest = refl
times_by_part false microseconds count sum longest = refl

pub same_times : (count count' sum sum' longest longest' : ℕ) → count ≡ count' → sum ≡ sum' → longest ≡ longest'
    → times_with count sum longest ≡ times_with count' sum' longest'
same_times count count' sum sum' longest longest' a b c =
    ap (λ n. times_with n sum longest) a ∙ ap (λ n. times_with count' n longest) b ∙ ap (λ n. times_with count' sum' n) c

times_more : (kinds : AnswerKind → Bool) (notes : List SourceNote) (note : SourceNote)
    → times_for kinds (notes ++ note ∷ [])
    ≡ lasted_if (is_taken_for kinds note) (microseconds_of note) (times_for kinds notes)
times_more kinds notes note =
    same_times _ _ _ _ _ _ (count_more (is_taken_for kinds) notes note) (sum_more kinds notes note) (longest_more kinds notes note)
    ∙ times_by_part (is_taken_for kinds note) (microseconds_of note) _ _ _

-- ---- One note more

abbrev pub counts_with : (polls empty not_found invalid lost completions : ℕ) (workflows activities : TaskTimes) → SourceCounts
counts_with polls empty not_found invalid lost completions workflows activities = record {
  polls = polls;
  empty_polls = empty;
  untaken = record { not_found = not_found; invalid = invalid; lost = lost; completions = completions };
  workflow_times = workflows;
  activity_times = activities;
}

pub same_counts : (p p' e e' n n' i i' l l' c c' : ℕ) (w w' a a' : TaskTimes)
    → p ≡ p' → e ≡ e' → n ≡ n' → i ≡ i' → l ≡ l' → c ≡ c' → w ≡ w' → a ≡ a'
    → counts_with p e n i l c w a ≡ counts_with p' e' n' i' l' c' w' a'
same_counts p p' e e' n n' i i' l l' c c' w w' a a' ps es ns is ls cs ws as' =
    ap (λ x. counts_with x e n i l c w a) ps
    ∙ ap (λ x. counts_with p' x n i l c w a) es
    ∙ ap (λ x. counts_with p' e' x i l c w a) ns
    ∙ ap (λ x. counts_with p' e' n' x l c w a) is
    ∙ ap (λ x. counts_with p' e' n' i' x c w a) ls
    ∙ ap (λ x. counts_with p' e' n' i' l' x w a) cs
    ∙ ap (λ x. counts_with p' e' n' i' l' c' x a) ws
    ∙ ap (λ x. counts_with p' e' n' i' l' c' w' x) as'

-- the counts, each with one more if the note is one of those that it counts
abbrev note_by_part : SourceNote → SourceCounts → SourceCounts
note_by_part note counts = counts_with
    (one_more_if (is_poll note) counts.polls)
    (one_more_if (is_empty_poll note) counts.empty_polls)
    (one_more_if (is_answer_with is_not_found note) counts.untaken.not_found)
    (one_more_if (is_answer_with is_invalid note) counts.untaken.invalid)
    (one_more_if (is_answer_with is_lost note) counts.untaken.lost)
    (one_more_if (is_untaken note) counts.untaken.completions)
    (lasted_if (is_taken_for is_of_workflow note) (microseconds_of note) counts.workflow_times)
    (lasted_if (is_taken_for is_of_activity note) (microseconds_of note) counts.activity_times)

abbrev answer_by_part : Receipt → AnswerKind → ℕ → SourceCounts → SourceCounts
answer_by_part receipt kind microseconds counts = counts_with
    counts.polls
    counts.empty_polls
    (one_more_if (is_not_found receipt) counts.untaken.not_found)
    (one_more_if (is_invalid receipt) counts.untaken.invalid)
    (one_more_if (is_lost receipt) counts.untaken.lost)
    (one_more_if (is_untaken_completion receipt kind) counts.untaken.completions)
    (lasted_if (is_accepted receipt && is_of_workflow kind) microseconds counts.workflow_times)
    (lasted_if (is_accepted receipt && is_of_activity kind) microseconds counts.activity_times)

answer_parts : (receipt : Receipt) (kind : AnswerKind) (microseconds : ℕ) (counts : SourceCounts)
    → with_receipt receipt kind microseconds counts ≡ answer_by_part receipt kind microseconds counts
answer_parts Acknowledged WorkflowCompletion microseconds counts = refl
answer_parts Acknowledged WorkflowFailure microseconds counts = refl
answer_parts Acknowledged ActivityCompletion microseconds counts = refl
answer_parts Acknowledged ActivityFailure microseconds counts = refl
answer_parts Discarded WorkflowCompletion microseconds counts = refl
answer_parts Discarded WorkflowFailure microseconds counts = refl
answer_parts Discarded ActivityCompletion microseconds counts = refl
answer_parts Discarded ActivityFailure microseconds counts = refl
answer_parts NotFound WorkflowCompletion microseconds counts = refl
answer_parts NotFound WorkflowFailure microseconds counts = refl
answer_parts NotFound ActivityCompletion microseconds counts = refl
answer_parts NotFound ActivityFailure microseconds counts = refl
answer_parts Invalid WorkflowCompletion microseconds counts = refl
answer_parts Invalid WorkflowFailure microseconds counts = refl
answer_parts Invalid ActivityCompletion microseconds counts = refl
answer_parts Invalid ActivityFailure microseconds counts = refl
answer_parts Withheld kind microseconds counts = refl
answer_parts Replaced kind microseconds counts = refl
answer_parts Cut kind microseconds counts = refl
answer_parts Lost kind microseconds counts = refl
answer_parts NoMemory kind microseconds counts = refl

note_parts : (note : SourceNote) (counts : SourceCounts) → with_note note counts ≡ note_by_part note counts
note_parts (Poll Empty) counts = refl
note_parts (Poll Task) counts = refl
note_parts (Poll Failure) counts = refl
note_parts (Answer answer) counts = answer_parts answer.receipt answer.kind answer.microseconds counts

counts_more : (notes : List SourceNote) (note : SourceNote)
    → counts_of (notes ++ note ∷ []) ≡ note_by_part note (counts_of notes)
counts_more notes note =
    same_counts _ _ _ _ _ _ _ _ _ _ _ _ _ _ _ _
    (count_more is_poll notes note)
    (count_more is_empty_poll notes note)
    (count_more (is_answer_with is_not_found) notes note)
    (count_more (is_answer_with is_invalid) notes note)
    (count_more (is_answer_with is_lost) notes note)
    (count_more is_untaken notes note)
    (times_more is_of_workflow notes note)
    (times_more is_of_activity notes note)

-- the counts of all that was noted, with a note more
pub noted_next : (notes new : List SourceNote) (note : SourceNote) (old counts : SourceCounts) → counts ≡ with_note note old
    → new ≡ notes ++ note ∷ [] → old ≡ counts_of notes → counts ≡ counts_of new
noted_next notes new note old counts counted appended were =
    counted ∙ ap (with_note note) were ∙ note_parts note (counts_of notes) ∙ sym (counts_more notes note) ∙ ap counts_of (sym appended)
