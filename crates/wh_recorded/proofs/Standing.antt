-- The places of tasks in the order of the rounds.
use Rattle.std.proofs.Common.{◌≡◌, ◌∙◌, ℕ, zero, suc, ◌+◌, ◌-◌, ◌<◌, ◌≤◌, ◌⊎◌, inl, inr, ◌++◌, List, [], ◌∷◌, Bool, true, false, cond, Some, take, length, slice_get, refl, ap, sym, length-append, arith}
use Rattle.std.specs.Prelude.{min, ltb, sum_by, count_by}
use Rattle.std.proofs.lemmas.Bool.{ltb-true, ltb-false, lt-ltb, cases_lt}
use Rattle.std.proofs.lemmas.List.Sums.{sum_by-cons}
use Rattle.std.proofs.lemmas.Option.{none-some, same_Some, slice_get_within}
use Rattle.wh_tasks.specs.declared.source.WorkflowTask.{WorkflowTask}
use Rattle.wh_recorded.specs.Rounds.{Scripted, tasks_in, task_of}
use Rattle.wh_recorded.specs.Order.{has_task, round_of, rounds_from, rounds_in, rank_of, EachStandsAtItsRank, NothingElseStands, AsManyAsTasks}
use Rattle.wh_recorded.proofs.Reading.{slice_get-left, slice_get-right}

-- ---- one round

-- how many of the histories have an n-th task
abbrev pub having : ℕ → List Scripted → ℕ
having n histories = count_by (has_task n) histories

pub having-cons : (n : ℕ) (x : Scripted) (rest : List Scripted) → having n (x ∷ rest) ≡ cond (ltb n (tasks_in x)) 1 0 + having n rest
having-cons n x rest = sum_by-cons (λ history. cond (has_task n history) 1 0) x rest

pub round_length : (n : ℕ) (histories : List Scripted) → length (round_of n histories) ≡ having n histories
round_length n [] = refl
round_length n (x ∷ rest) =
    let more = round_length n rest in
    (elim (ltb n (tasks_in x)) as (λ b. length (cond b (task_of x n ∷ round_of n rest) (round_of n rest)) ≡ cond b 1 0 + having n rest) [
      | true ↦ omega (arith, more)
      | false ↦ omega (arith, more)
    ]) ∙ sym (having-cons n x rest)

-- the n-th task of a history stands after those of the histories before it
pub in_round : (n : ℕ) (histories : List Scripted) (place : ℕ) (history : Scripted) → slice_get histories place ≡ Some history → n < tasks_in history → slice_get (round_of n histories) (having n (take place histories)) ≡ Some (task_of history n)
in_round n [] place history at has = absurd (none-some history at)
in_round n (x ∷ rest) zero history at has =
    let same : x ≡ history = same_Some x history at in
    let test : ltb n (tasks_in x) ≡ true = lt-ltb n (tasks_in x) (rw same has) in
    ap (λ b. slice_get (cond b (task_of x n ∷ round_of n rest) (round_of n rest)) 0) test ∙ ap (λ h. Some (task_of h n)) same
in_round n (x ∷ rest) (suc place) history at has =
    let later = in_round n rest place history at has in
    ap (λ k. slice_get (round_of n (x ∷ rest)) k) (having-cons n x (take place rest))
    ∙ (elim (ltb n (tasks_in x)) as (λ b. slice_get (cond b (task_of x n ∷ round_of n rest) (round_of n rest)) (cond b 1 0 + having n (take place rest)) ≡ Some (task_of history n)) [
      | true ↦ (let one : 1 + having n (take place rest) ≡ suc (having n (take place rest)) = omega arith in ap (λ k. slice_get (task_of x n ∷ round_of n rest) k) one ∙ later)
      | false ↦ (let none : 0 + having n (take place rest) ≡ having n (take place rest) = omega arith in ap (λ k. slice_get (round_of n rest) k) none ∙ later)
    ])

-- a place of the round holds a history's n-th task
record InRound (n : ℕ) (histories : List Scripted) (k : ℕ) (task : WorkflowTask) : Type 0 where
  place : ℕ
  history : Scripted
  at : slice_get histories place ≡ Some history
  has : n < tasks_in history
  is : task ≡ task_of history n
  rank : k ≡ having n (take place histories)

from_round : (n : ℕ) (histories : List Scripted) (k : ℕ) (task : WorkflowTask) → slice_get (round_of n histories) k ≡ Some task → InRound n histories k task
from_round n [] k task e = absurd (none-some task e)
from_round n (x ∷ rest) k task e =
    (elim (ltb n (tasks_in x)) as (λ b. ltb n (tasks_in x) ≡ b → slice_get (cond b (task_of x n ∷ round_of n rest) (round_of n rest)) k ≡ Some task → InRound n (x ∷ rest) k task) [
      | true ↦ λ test is. with_it k (λ i there. from_round n rest i task there) test is
      | false ↦ λ test is. (let none : 0 + k ≡ k = omega arith in rw (← none) (behind k 0 test refl (from_round n rest k task is)))
    ]) refl e
  where
    behind : (i one : ℕ) {b : Bool} → ltb n (tasks_in x) ≡ b → one ≡ cond b 1 0 → InRound n rest i task → InRound n (x ∷ rest) (one + i) task
    behind i one {b = b} test counted r = record {
      place = suc r.place;
      history = r.history;
      at = r.at;
      has = r.has;
      is = r.is;
      rank = (let rank = r.rank in let sum : having n (x ∷ take r.place rest) ≡ cond (ltb n (tasks_in x)) 1 0 + having n (take r.place rest) = having-cons n x (take r.place rest) in let here = ap {B = ℕ} (λ t. cond t 1 0) test in omega (arith, rank, sum, here, counted));
    }

    with_it : (i : ℕ) → ((j : ℕ) → slice_get (round_of n rest) j ≡ Some task → InRound n rest j task) → ltb n (tasks_in x) ≡ true → slice_get (task_of x n ∷ round_of n rest) i ≡ Some task → InRound n (x ∷ rest) i task
    with_it zero later test is = record { place = 0; history = x; at = refl; has = ltb-true n (tasks_in x) test; is = sym (same_Some (task_of x n) task is); rank = refl }
    with_it (suc i) later test is = let one : 1 + i ≡ suc i = omega arith in rw (← one) (behind i 1 test refl (later i is))

-- ---- the rounds

-- how many tasks stand before the n-th round
abbrev pub before : ℕ → List Scripted → ℕ
before n histories = sum_by (λ history. min n (tasks_in history)) histories

before-cons : (n : ℕ) (x : Scripted) (rest : List Scripted) → before n (x ∷ rest) ≡ min n (tasks_in x) + before n rest
before-cons n x rest = sum_by-cons (λ history. min n (tasks_in history)) x rest

before_first : (histories : List Scripted) → before 0 histories ≡ 0
before_first [] = refl
before_first (x ∷ rest) = let one = before-cons 0 x rest in let none = before_first rest in omega (arith, one, none)

pub before_next : (n : ℕ) (histories : List Scripted) → before (n + 1) histories ≡ before n histories + length (round_of n histories)
before_next n histories = by_having histories ∙ ap (λ k. before n histories + k) (sym (round_length n histories))
  where
    one_more : (t : ℕ) → min (n + 1) t ≡ min n t + cond (ltb n t) 1 0
    one_more t = (elim (ltb n t) as (λ b. ltb n t ≡ b → min (n + 1) t ≡ min n t + cond b 1 0) [
      | true ↦ λ test. (let below = ltb-true n t test in omega (arith, below))
      | false ↦ λ test. (let above = ltb-false n t test in omega (arith, above))
    ]) refl

    by_having : (list : List Scripted) → before (n + 1) list ≡ before n list + having n list
    by_having [] = refl
    by_having (x ∷ rest) =
        let more = before-cons (n + 1) x rest in
        let less = before-cons n x rest in
        let have = having-cons n x rest in
        let one = one_more (tasks_in x) in
        let others = by_having rest in
        omega (arith, more, less, have, one, others)

pub before_rises : (n m : ℕ) (histories : List Scripted) → n ≤ m → before n histories ≤ before m histories
before_rises n m [] low = omega arith
before_rises n m (x ∷ rest) low =
    let less = before-cons n x rest in
    let more = before-cons m x rest in
    let others = before_rises n m rest low in
    omega (arith, low, less, more, others)

pub before_all : (n : ℕ) (histories : List Scripted) → rounds_in histories ≤ n → before n histories ≡ sum_by tasks_in histories
before_all n [] most = refl
before_all n (x ∷ rest) most =
    let all = before-cons n x rest in
    let sum = sum_by-cons tasks_in x rest in
    let others = before_all n rest (omega (arith, most)) in
    omega (arith, most, all, sum, others)

-- what stands at a place of the m-th round stands after the rounds before it
in_rounds_from : (n more : ℕ) (histories : List Scripted) (m k i : ℕ) → n ≤ m → m < n + more → k < length (round_of m histories) → i + before n histories ≡ before m histories + k → slice_get (rounds_from n more histories) i ≡ slice_get (round_of m histories) k
in_rounds_from n zero histories m k i low high within is = absurd (omega (arith, low, high))
in_rounds_from n (suc more) histories m k i low high within is =
    by (rounds_from (n + 1) more histories) (λ j below there. in_rounds_from (n + 1) more histories m k j below (omega (arith, high)) within there) (cases_lt n m)
  where
    by : (later : List WorkflowTask) → ((j : ℕ) → n + 1 ≤ m → j + before (n + 1) histories ≡ before m histories + k → slice_get later j ≡ slice_get (round_of m histories) k) → (n < m) ⊎ (m ≤ n) → slice_get (round_of n histories ++ later) i ≡ slice_get (round_of m histories) k
    by later there_by (inl below) =
        let next = before_next n histories in
        let rises = before_rises (n + 1) m histories (omega (arith, below)) in
        let behind : i ≡ length (round_of n histories) + (i - length (round_of n histories)) = omega (arith, is, next, rises) in
        let there : (i - length (round_of n histories)) + before (n + 1) histories ≡ before m histories + k = omega (arith, is, next, rises) in
        ap (λ p. slice_get (round_of n histories ++ later) p) behind
        ∙ slice_get-right (round_of n histories) later (i - length (round_of n histories))
        ∙ there_by (i - length (round_of n histories)) (omega (arith, below)) there
    by later there_by (inr above) =
        let same : n ≡ m = omega (arith, low, above) in
        let here : i ≡ k = (let at = ap (λ r. before r histories) same in omega (arith, is, at)) in
        ap (λ p. slice_get (round_of n histories ++ later) p) here
        ∙ slice_get-left (round_of n histories) later k (rw same within)
        ∙ ap (λ r. slice_get (round_of r histories) k) same

-- each place holds what stands in one of the rounds
record InRounds (n : ℕ) (histories : List Scripted) (i : ℕ) (task : WorkflowTask) : Type 0 where
  round : ℕ
  k : ℕ
  at : slice_get (round_of round histories) k ≡ Some task
  rank : i + before n histories ≡ before round histories + k

from_rounds : (n more : ℕ) (histories : List Scripted) (i : ℕ) (task : WorkflowTask) → slice_get (rounds_from n more histories) i ≡ Some task → InRounds n histories i task
from_rounds n zero histories i task e = absurd (none-some task e)
from_rounds n (suc more) histories i task e =
    by (rounds_from (n + 1) more histories) e (λ j there. from_rounds (n + 1) more histories j task there) (cases_lt i (length (round_of n histories)))
  where
    by : (later : List WorkflowTask) → slice_get (round_of n histories ++ later) i ≡ Some task → ((j : ℕ) → slice_get later j ≡ Some task → InRounds (n + 1) histories j task) → (i < length (round_of n histories)) ⊎ (length (round_of n histories) ≤ i) → InRounds n histories i task
    by later at there_by (inl within) = record { round = n; k = i; at = sym (slice_get-left (round_of n histories) later i within) ∙ at; rank = omega arith }
    by later at there_by (inr behind) =
        let is : i ≡ length (round_of n histories) + (i - length (round_of n histories)) = omega (arith, behind) in
        let there = sym (slice_get-right (round_of n histories) later (i - length (round_of n histories))) ∙ ap (λ p. slice_get (round_of n histories ++ later) p) (sym is) ∙ at in
        let r = there_by (i - length (round_of n histories)) there in
        let rank = r.rank in
        let next = before_next n histories in
        record { round = r.round; k = r.k; at = r.at; rank = omega (arith, rank, next, behind) }

pub rounds_length : (n more : ℕ) (histories : List Scripted) → length (rounds_from n more histories) + before n histories ≡ before (n + more) histories
rounds_length n zero histories = let none : n ≡ n + 0 = omega arith in omega arith ∙ ap (λ k. before k histories) none
rounds_length n (suc more) histories =
    let both = length-append (round_of n histories) (rounds_from (n + 1) more histories) in
    let next = before_next n histories in
    let rest = rounds_length (n + 1) more histories in
    let sum : n + 1 + more ≡ n + suc more = omega arith in
    let there = ap (λ k. before k histories) sum in
    omega (arith, both, next, rest, there)

-- ---- the laws

most_of : (histories : List Scripted) (place : ℕ) (history : Scripted) → slice_get histories place ≡ Some history → tasks_in history ≤ rounds_in histories
most_of [] place history at = absurd (none-some history at)
most_of (x ∷ rest) zero history at = let same : tasks_in x ≡ tasks_in history = ap tasks_in (same_Some x history at) in omega (arith, same)
most_of (x ∷ rest) (suc place) history at = let most = most_of rest place history at in omega (arith, most)

pub each_stands_at_its_rank : EachStandsAtItsRank
each_stands_at_its_rank histories place n history at has =
    let here = in_round n histories place history at has in
    let within = slice_get_within (round_of n histories) (having n (take place histories)) (task_of history n) here in
    let most = most_of histories place history at in
    let none = before_first histories in
    in_rounds_from 0 (rounds_in histories) histories n (having n (take place histories)) (rank_of histories place n) (omega arith) (omega (arith, has, most)) within (omega (arith, none))
    ∙ here

pub nothing_else_stands : NothingElseStands
nothing_else_stands histories rank task e =
    let r = from_rounds 0 (rounds_in histories) histories rank task e in
    let s = from_round r.round histories r.k task r.at in
    let none = before_first histories in
    let outer = r.rank in
    let inner = s.rank in
    record { place = s.place; n = r.round; history = s.history; at = s.at; has = s.has; is = s.is; rank_is = omega (arith, none, outer, inner) }

pub as_many_as_tasks : AsManyAsTasks
as_many_as_tasks histories =
    let all = rounds_length 0 (rounds_in histories) histories in
    let none = before_first histories in
    let whole = before_all (0 + rounds_in histories) histories (omega arith) in
    omega (arith, all, none, whole)
