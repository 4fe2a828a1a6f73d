-- What is left of the order of the rounds, and what each call leaves of it.
use Rattle.std.proofs.Common.{◌≡◌, ◌∙◌, ℕ, zero, suc, ◌+◌, ◌-◌, ◌<◌, ◌≤◌, ◌⊎◌, inl, inr, ◌++◌, List, [], ◌∷◌, true, false, cond, Option, Some, None, drop, take, length, slice_get, refl, ap, sym, arith}
use Rattle.std.specs.Prelude.{max, ltb}
use Rattle.std.proofs.lemmas.Bool.{ltb-true, ltb-false, le-ltb}
use Rattle.std.proofs.lemmas.List.{drop-drop}
use Rattle.std.proofs.lemmas.Option.{none-some, same_Some}
use Rattle.wh_tasks.specs.declared.source.WorkflowTask.{WorkflowTask}
use Rattle.wh_tasks.specs.declared.source.Polled.TheVariants.{Task, Nothing, Closed}
use Rattle.wh_recorded.specs.Rounds.{Scripted, Stage, opening_stage, tasks_in, task_of, first_with, upcoming_by, upcoming, Polls}
use Rattle.wh_recorded.specs.Order.{round_of, rounds_from, rounds_in, in_rounds}
use Rattle.wh_recorded.specs.Calls.{Call, DoesAll, tasks_given, polls_in}
use Rattle.wh_recorded.specs.Calls.Call.{poll, send, look}
use Rattle.wh_recorded.proofs.Reading.{slice_get-drop}

-- where the next task is of this round and of the history at this place or a later one: the rest of the round, then the
-- rounds after it
abbrev pub left_by : List Scripted → ℕ → ℕ → List WorkflowTask
left_by histories round next =
    round_of round (drop next histories) ++ rounds_from (round + 1) (rounds_in histories - (round + 1)) histories

abbrev pub left : Stage → List WorkflowTask
left stage = left_by stage.histories stage.round stage.next

-- ---- the first history that has a task

-- a history has the n-th task, and the round goes on after it
record Found (before n : ℕ) (histories : List Scripted) (place : ℕ) : Type 0 where
  history : Scripted
  low : before ≤ place
  at : slice_get histories (place - before) ≡ Some history
  round : round_of n histories ≡ task_of history n ∷ round_of n (drop (place + 1 - before) histories)
  most : n < rounds_in histories

found : (before n : ℕ) (histories : List Scripted) (place : ℕ) → first_with before n histories ≡ Some place → Found before n histories place
found before n [] place e = absurd (none-some place e)
found before n (x ∷ rest) place e =
    (elim (ltb n (tasks_in x)) as (λ b. ltb n (tasks_in x) ≡ b → cond b (Some before) (first_with (before + 1) n rest) ≡ Some place → Found before n (x ∷ rest) place) [
      | true ↦ λ test is. here test (same_Some before place is)
      | false ↦ λ test is. there test (found (before + 1) n rest place is)
    ]) refl e
  where
    here : ltb n (tasks_in x) ≡ true → before ≡ place → Found before n (x ∷ rest) place
    here test same =
        let none : place - before ≡ 0 = omega arith in
        let one : place + 1 - before ≡ 1 = omega arith in
        let has = ltb-true n (tasks_in x) test in
        record {
          history = x;
          low = omega arith;
          at = ap (λ k. slice_get (x ∷ rest) k) none;
          round = ap (λ b. cond b (task_of x n ∷ round_of n rest) (round_of n rest)) test ∙ ap (λ k. task_of x n ∷ round_of n (drop k (x ∷ rest))) (sym one);
          most = omega arith;
        }

    there : ltb n (tasks_in x) ≡ false → Found (before + 1) n rest place → Found before n (x ∷ rest) place
    there test f =
        let low = f.low in
        let most = f.most in
        let more : place - before ≡ suc (place - (before + 1)) = omega arith in
        let behind : place + 1 - before ≡ suc (place + 1 - (before + 1)) = omega arith in
        record {
          history = f.history;
          low = omega arith;
          at = ap (λ k. slice_get (x ∷ rest) k) more ∙ f.at;
          round = ap (λ b. cond b (task_of x n ∷ round_of n rest) (round_of n rest)) test ∙ f.round ∙ ap (λ k. task_of f.history n ∷ round_of n (drop k (x ∷ rest))) (sym behind);
          most = omega arith;
        }

-- no history has it
none_in_round : (before n : ℕ) (histories : List Scripted) → first_with before n histories ≡ None → round_of n histories ≡ []
none_in_round before n [] e = refl
none_in_round before n (x ∷ rest) e =
    (elim (ltb n (tasks_in x)) as (λ b. cond b (Some before) (first_with (before + 1) n rest) ≡ None → cond b (task_of x n ∷ round_of n rest) (round_of n rest) ≡ []) [
      | true ↦ λ is. absurd (none-some before (sym is))
      | false ↦ λ is. none_in_round (before + 1) n rest is
    ]) e

none_later : (before n : ℕ) (histories : List Scripted) → first_with before n histories ≡ None → rounds_in histories ≤ n
none_later before n [] e = omega arith
none_later before n (x ∷ rest) e =
    (elim (ltb n (tasks_in x)) as (λ b. ltb n (tasks_in x) ≡ b → cond b (Some before) (first_with (before + 1) n rest) ≡ None → max (tasks_in x) (rounds_in rest) ≤ n) [
      | true ↦ λ test is. absurd (none-some before (sym is))
      | false ↦ λ test is. let few = ltb-false n (tasks_in x) test in let fewer = none_later (before + 1) n rest is in omega arith
    ]) refl e

-- ---- the next task

-- the next task is of this round
next_here : (histories : List Scripted) (round next place : ℕ) (history : Scripted) → first_with next round (drop next histories) ≡ Some place → slice_get histories place ≡ Some history → left_by histories round next ≡ task_of history round ∷ left_by histories round (place + 1)
next_here histories round next place history e at =
    let f = found next round (drop next histories) place e in
    let low = f.low in
    let here : next + (place - next) ≡ place = omega arith in
    let behind : next + (place + 1 - next) ≡ place + 1 = omega arith in
    let same : f.history ≡ history = same_Some f.history history (sym f.at ∙ slice_get-drop next histories (place - next) ∙ ap (λ k. slice_get histories k) here ∙ at) in
    let goes_on : drop (place + 1 - next) (drop next histories) ≡ drop (place + 1) histories = drop-drop (place + 1 - next) next histories ∙ ap (λ k. drop k histories) behind in
    let later = rounds_from (round + 1) (rounds_in histories - (round + 1)) histories in
    ap (λ tasks. tasks ++ later) f.round
    ∙ ap (λ h. task_of h round ∷ (round_of round (drop (place + 1 - next) (drop next histories)) ++ later)) same
    ∙ ap (λ rest. task_of history round ∷ (round_of round rest ++ later)) goes_on

-- the next task is of the next round
next_later : (histories : List Scripted) (round next place : ℕ) (history : Scripted) → first_with next round (drop next histories) ≡ None → first_with 0 (round + 1) histories ≡ Some place → slice_get histories place ≡ Some history → left_by histories round next ≡ task_of history (round + 1) ∷ left_by histories (round + 1) (place + 1)
next_later histories round next place history none e at =
    let f = found 0 (round + 1) histories place e in
    let most = f.most in
    let here : place - 0 ≡ place = omega arith in
    let behind : place + 1 - 0 ≡ place + 1 = omega arith in
    let more : rounds_in histories - (round + 1) ≡ suc (rounds_in histories - (round + 1 + 1)) = omega arith in
    let same : f.history ≡ history = same_Some f.history history (sym f.at ∙ ap (λ k. slice_get histories k) here ∙ at) in
    let later = rounds_from (round + 1 + 1) (rounds_in histories - (round + 1 + 1)) histories in
    ap (λ tasks. tasks ++ rounds_from (round + 1) (rounds_in histories - (round + 1)) histories) (none_in_round next round (drop next histories) none)
    ∙ ap (λ k. rounds_from (round + 1) k histories) more
    ∙ ap (λ tasks. tasks ++ later) f.round
    ∙ ap (λ h. task_of h (round + 1) ∷ (round_of (round + 1) (drop (place + 1 - 0) histories) ++ later)) same
    ∙ ap (λ k. task_of history (round + 1) ∷ (round_of (round + 1) (drop k histories) ++ later)) behind

-- there is none
none_left : (histories : List Scripted) (round next : ℕ) → first_with next round (drop next histories) ≡ None → first_with 0 (round + 1) histories ≡ None → left_by histories round next ≡ []
none_left histories round next none later =
    let few = none_later 0 (round + 1) histories later in
    let past : rounds_in histories - (round + 1) ≡ 0 = omega arith in
    ap (λ tasks. tasks ++ rounds_from (round + 1) (rounds_in histories - (round + 1)) histories) (none_in_round next round (drop next histories) none)
    ∙ ap (λ k. rounds_from (round + 1) k histories) past

upcoming_cases : (round : ℕ) (here later : Option ℕ) (n place : ℕ) → upcoming_by round here later ≡ Some (n, place) → ((here ≡ Some place) × (n ≡ round)) ⊎ ((here ≡ None) × (later ≡ Some place) × (n ≡ round + 1))
upcoming_cases round (Some p) later n place e =
    let same : (round, p) ≡ (n, place) = same_Some (round, p) (n, place) e in inl (ap (λ t. Some t.1) same, sym (ap (λ t. t.0) same))
upcoming_cases round None (Some p) n place e =
    let same : (round + 1, p) ≡ (n, place) = same_Some (round + 1, p) (n, place) e in inr (refl, ap (λ t. Some t.1) same, sym (ap (λ t. t.0) same))
upcoming_cases round None None n place e = absurd (none-some (n, place) e)

upcoming_none : (round : ℕ) (here later : Option ℕ) → upcoming_by round here later ≡ None → (here ≡ None) × (later ≡ None)
upcoming_none round (Some p) later e = absurd (none-some (round, p) (sym e))
upcoming_none round None (Some p) e = absurd (none-some (round + 1, p) (sym e))
upcoming_none round None None e = (refl, refl)

-- a poll that gives a task takes it off
pub left_by_task : (old new : Stage) (task : WorkflowTask) → Polls old (Task task) new → left old ≡ task ∷ left new
left_by_task old new task p =
    by (upcoming_cases old.round (first_with old.next old.round (drop old.next old.histories)) (first_with 0 (old.round + 1) old.histories) p.0 p.1 p.3)
  where
    rest : (round : ℕ) → p.0 ≡ round → left old ≡ task_of p.2 round ∷ left_by old.histories round (p.1 + 1) → left old ≡ task ∷ left new
    rest round is same =
        same
        ∙ ap (λ n. task_of p.2 n ∷ left_by old.histories n (p.1 + 1)) (sym is)
        ∙ ap (λ t. t ∷ left_by old.histories p.0 (p.1 + 1)) (sym p.5)
        ∙ ap (λ s. task ∷ left s) (sym p.6)

    by : ((first_with old.next old.round (drop old.next old.histories) ≡ Some p.1) × (p.0 ≡ old.round)) ⊎ ((first_with old.next old.round (drop old.next old.histories) ≡ None) × (first_with 0 (old.round + 1) old.histories ≡ Some p.1) × (p.0 ≡ old.round + 1)) → left old ≡ task ∷ left new
    by (inl c) = rest old.round c.1 (next_here old.histories old.round old.next p.1 p.2 c.0 p.4)
    by (inr c) = rest (old.round + 1) c.2 (next_later old.histories old.round old.next p.1 p.2 c.0 c.1 p.4)

-- where a poll is closed, nothing is left
pub left_where_closed : (old : Stage) → upcoming old ≡ None → left old ≡ []
left_where_closed old e =
    let both = upcoming_none old.round (first_with old.next old.round (drop old.next old.histories)) (first_with 0 (old.round + 1) old.histories) e in
    none_left old.histories old.round old.next both.0 both.1

-- ---- a new source

past_round : (n : ℕ) (histories : List Scripted) → rounds_in histories ≤ n → round_of n histories ≡ []
past_round n [] few = refl
past_round n (x ∷ rest) few =
    let past : ltb n (tasks_in x) ≡ false = le-ltb n (tasks_in x) (omega arith) in
    ap (λ b. cond b (task_of x n ∷ round_of n rest) (round_of n rest)) past ∙ past_round n rest (omega arith)

all_left_by : (histories : List Scripted) (most : ℕ) → rounds_in histories ≤ most → rounds_from 0 most histories ≡ round_of 0 histories ++ rounds_from 1 (most - 1) histories
all_left_by histories zero few = ap (λ tasks. tasks ++ []) (sym (past_round 0 histories few))
all_left_by histories (suc most) few = let one : most ≡ suc most - 1 = omega arith in ap (λ k. round_of 0 histories ++ rounds_from 1 k histories) one

-- all tasks are left to a new source
pub all_left : (histories : List Scripted) → in_rounds histories ≡ left (opening_stage histories)
all_left histories = all_left_by histories (rounds_in histories) (omega arith)

-- ---- lists of calls

take_none : {A : Type 0} (k : ℕ) (xs : List A) → xs ≡ [] → take k xs ≡ []
take_none zero xs e = refl
take_none (suc k) [] e = refl
take_none (suc k) (x ∷ xs) e = let none = ap length e in absurd (omega (arith, none))

-- what the calls gave, and what is left after them, were left before them
pub given_and_left : (first last : Stage) (calls : List Call) → DoesAll first calls last → left first ≡ tasks_given calls ++ left last
given_and_left first last [] s = ap left (sym s)
given_and_left first last (poll (Task task) ∷ calls) s = left_by_task first s.0 task s.1 ∙ ap (λ tasks. task ∷ tasks) (given_and_left s.0 last calls s.2)
given_and_left first last (poll Nothing ∷ calls) s = absurd s.1
given_and_left first last (poll Closed ∷ calls) s = ap left (sym s.1.1) ∙ given_and_left s.0 last calls s.2
given_and_left first last (send name sent ∷ calls) s = ap left (sym s.1) ∙ given_and_left s.0 last calls s.2
given_and_left first last (look ∷ calls) s = ap left (sym s.1) ∙ given_and_left s.0 last calls s.2

-- so many polls take the first so many tasks off
pub given_by_polls : (first last : Stage) (calls : List Call) → DoesAll first calls last → tasks_given calls ≡ take (polls_in calls) (left first)
given_by_polls first last [] s = refl
given_by_polls first last (poll (Task task) ∷ calls) s =
    ap (λ tasks. task ∷ tasks) (given_by_polls s.0 last calls s.2)
    ∙ ap (λ tasks. take (suc (polls_in calls)) tasks) (sym (left_by_task first s.0 task s.1))
    ∙ ap (λ k. take k (left first)) (let one : suc (polls_in calls) ≡ polls_in calls + 1 = omega arith in one)
given_by_polls first last (poll Nothing ∷ calls) s = absurd s.1
given_by_polls first last (poll Closed ∷ calls) s =
    let none : left first ≡ [] = left_where_closed first s.1.0 in
    given_by_polls s.0 last calls s.2
    ∙ take_none (polls_in calls) (left s.0) (ap left s.1.1 ∙ none)
    ∙ sym (take_none (polls_in calls + 1) (left first) none)
given_by_polls first last (send name sent ∷ calls) s = given_by_polls s.0 last calls s.2 ∙ ap (λ stage. take (polls_in calls) (left stage)) s.1
given_by_polls first last (look ∷ calls) s = given_by_polls s.0 last calls s.2 ∙ ap (λ stage. take (polls_in calls) (left stage)) s.1
