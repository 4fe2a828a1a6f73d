-- What is counted of the notes of several sources.
use Rattle.std.proofs.Common.{◌≡◌, ◌∙◌, ℕ, ◌+◌, ◌∷◌, ◌++◌, [], List, Bool, cond, map, max, ap, sym, refl, arith, append_assoc}
use Rattle.std.proofs.lemmas.List.{append-nil, map-append}
use Rattle.std.proofs.lemmas.List.Sums.{fold-append, sum_by-append}
use Rattle.std.specs.List.{flat_map, fold}
use Rattle.std.specs.Prelude.{count_by, sum_by}
use Rattle.wh_client.specs.declared.answers.AnswerKind.{AnswerKind}
use Rattle.wh_client.specs.declared.notes.SourceNote.{SourceNote}
use Rattle.wh_notes.specs.Counts.{counts_together}
use Rattle.wh_notes.specs.Notes.{all_counts, is_answer_with, counts_of, is_empty_poll, is_invalid, is_lost, is_not_found, is_of_activity, is_of_workflow, is_poll, is_taken_for, is_untaken, time_for, times_for}
use Rattle.wh_notes.specs.Sums.{at_most, together}
use Rattle.wh_notes.specs.Times.{times_together}
use Rattle.wh_notes.proofs.Counting.{same_counts, same_times}

sum_case : (one other all : ℕ) → all ≡ one + other → together (at_most one) (at_most other) ≡ at_most all
sum_case one other all is = omega (arith, is)

sums_joined : (of : SourceNote → ℕ) (one other : List SourceNote)
    → together (at_most (sum_by of one)) (at_most (sum_by of other)) ≡ at_most (sum_by of (one ++ other))
sums_joined of one other = sum_case (sum_by of one) (sum_by of other) (sum_by of (one ++ other)) (sum_by-append of one other)

counts_joined : (test : SourceNote → Bool) (one other : List SourceNote)
    → together (at_most (count_by test one)) (at_most (count_by test other)) ≡ at_most (count_by test (one ++ other))
counts_joined test one other = sums_joined (λ n. cond (test n) 1 0) one other

longest_from : (longest : ℕ) (times : List ℕ) → fold max longest times ≡ max longest (fold max 0 times)
longest_from longest [] = omega arith
longest_from longest (time ∷ times) =
    let one = longest_from (max longest time) times in
    let other = longest_from (max 0 time) times in
    omega (arith, one, other)

longest_joined : (kinds : AnswerKind → Bool) (one other : List SourceNote)
    → max (fold max 0 (map (time_for kinds) one)) (fold max 0 (map (time_for kinds) other))
    ≡ fold max 0 (map (time_for kinds) (one ++ other))
longest_joined kinds one other =
    sym (ap (fold max 0) (map-append (time_for kinds) one other)
    ∙ fold-append max 0 (map (time_for kinds) one) (map (time_for kinds) other)
    ∙ longest_from (fold max 0 (map (time_for kinds) one)) (map (time_for kinds) other))

times_joined : (kinds : AnswerKind → Bool) (one other : List SourceNote)
    → times_together (times_for kinds one) (times_for kinds other) ≡ times_for kinds (one ++ other)
times_joined kinds one other =
    same_times _ _ _ _ _ _ (counts_joined (is_taken_for kinds) one other) (sums_joined (time_for kinds) one other)
    (longest_joined kinds one other)

-- what two sources have counted is what is counted of the notes of both
pub notes_joined : (one other : List SourceNote) → counts_together (counts_of one) (counts_of other) ≡ counts_of (one ++ other)
notes_joined one other =
    same_counts _ _ _ _ _ _ _ _ _ _ _ _ _ _ _ _
    (counts_joined is_poll one other)
    (counts_joined is_empty_poll one other)
    (counts_joined (is_answer_with is_not_found) one other)
    (counts_joined (is_answer_with is_invalid) one other)
    (counts_joined (is_answer_with is_lost) one other)
    (counts_joined is_untaken one other)
    (times_joined is_of_workflow one other)
    (times_joined is_of_activity one other)

counts_from : {S : Type 0} (noted : S → List SourceNote) (before : List SourceNote) (sources : List S)
    → fold (λ counts source. counts_together counts (counts_of (noted source))) (counts_of before) sources
    ≡ counts_of (before ++ flat_map noted sources)
counts_from noted before [] = ap counts_of (sym (append-nil before))
counts_from noted before (source ∷ sources) =
    ap (λ counts. fold (λ counts source. counts_together counts (counts_of (noted source))) counts sources) (notes_joined before (noted source))
    ∙ counts_from noted (before ++ noted source) sources
    ∙ ap counts_of (append_assoc before (noted source) (flat_map noted sources))

-- what all sources have counted is what is counted of all their notes
pub all_joined : {S : Type 0} (noted : S → List SourceNote) (sources : List S)
    → all_counts noted sources ≡ counts_of (flat_map noted sources)
all_joined noted sources = counts_from noted [] sources
