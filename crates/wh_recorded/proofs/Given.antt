-- How many tasks the polls returned, and which tasks of each history they are.
use Rattle.std.proofs.Common.{◌≡◌, ◌∙◌, ℕ, zero, suc, ◌+◌, ◌-◌, ◌<◌, ◌≤◌, ◌⊎◌, inl, inr, List, [], ◌∷◌, true, false, cond, Some, take, drop, length, slice_get, refl, ap, length-append, length-take, arith}
use Rattle.std.specs.Prelude.{min, ltb, sum_by}
use Rattle.std.proofs.lemmas.Bool.{lt-ltb, le-ltb, cases_lt}
use Rattle.std.proofs.lemmas.Option.{none-some, same_Some, slice_get_within}
use Rattle.wh_tasks.specs.declared.source.Polled.TheVariants.{Task, Nothing, Closed}
use Rattle.wh_recorded.specs.Rounds.{Scripted, Stage, opening_stage, tasks_in, task_of, polled_at}
use Rattle.wh_recorded.specs.Order.{round_of, rounds_from, rounds_in, in_rounds, rank_of}
use Rattle.wh_recorded.specs.Calls.{Call, DoesAll, Makes, tasks_given, polls_in, PolledAreGiven}
use Rattle.wh_recorded.specs.Calls.Call.{poll, send, look}
use Rattle.wh_recorded.proofs.Left.{left, left_by}
use Rattle.wh_recorded.proofs.Listing.{polls_go_in_rounds, parted}
use Rattle.wh_recorded.proofs.Reading.{slice_get-take}
use Rattle.wh_recorded.proofs.Standing.{having, having-cons, round_length, in_round, before, before_next, before_rises, before_all, rounds_length, each_stands_at_its_rank, as_many_as_tasks}

-- ---- histories that have a task

having_split : (n next : ℕ) (histories : List Scripted) → having n (take next histories) + having n (drop next histories) ≡ having n histories
having_split n zero histories = omega arith
having_split n (suc next) [] = refl
having_split n (suc next) (x ∷ rest) =
    let whole = having-cons n x rest in
    let part = having-cons n x (take next rest) in
    let others = having_split n next rest in
    omega (arith, whole, part, others)

having_rises : (n p q : ℕ) (histories : List Scripted) → p ≤ q → having n (take p histories) ≤ having n (take q histories)
having_rises n zero q histories low = omega arith
having_rises n (suc p) zero histories low = absurd (omega (arith, low))
having_rises n (suc p) (suc q) [] low = omega arith
having_rises n (suc p) (suc q) (x ∷ rest) low =
    let less = having-cons n x (take p rest) in
    let more = having-cons n x (take q rest) in
    let others = having_rises n p q rest (omega (arith, low)) in
    omega (arith, less, more, others)

-- a history that has the task is one more after its place
having_one_more : (n place next : ℕ) (histories : List Scripted) (history : Scripted) → slice_get histories place ≡ Some history → n < tasks_in history → place < next → having n (take place histories) < having n (take next histories)
having_one_more n place zero histories history at has before = absurd (omega (arith, before))
having_one_more n place (suc next) [] history at has before = absurd (none-some history at)
having_one_more n zero (suc next) (x ∷ rest) history at has before =
    let more = having-cons n x (take next rest) in
    let same : tasks_in x ≡ tasks_in history = ap tasks_in (same_Some x history at) in
    let test : ltb n (tasks_in x) ≡ true = lt-ltb n (tasks_in x) (omega (arith, has, same)) in
    let one = ap {B = ℕ} (λ b. cond b 1 0) test in
    omega (arith, more, one)
having_one_more n (suc place) (suc next) (x ∷ rest) history at has before =
    let less = having-cons n x (take place rest) in
    let more = having-cons n x (take next rest) in
    let others = having_one_more n place next rest history at has (omega (arith, before)) in
    omega (arith, less, more, others)

-- ---- how many tasks were given

histories_stay : (first last : Stage) (calls : List Call) → DoesAll first calls last → last.histories ≡ first.histories
histories_stay first last [] s = ap (λ stage. stage.histories) s
histories_stay first last (poll (Task task) ∷ calls) s = histories_stay s.0 last calls s.2 ∙ ap (λ stage. stage.histories) s.1.6
histories_stay first last (poll Nothing ∷ calls) s = absurd s.1
histories_stay first last (poll Closed ∷ calls) s = histories_stay s.0 last calls s.2 ∙ ap (λ stage. stage.histories) s.1.1
histories_stay first last (send name sent ∷ calls) s = histories_stay s.0 last calls s.2 ∙ ap (λ stage. stage.histories) s.1
histories_stay first last (look ∷ calls) s = histories_stay s.0 last calls s.2 ∙ ap (λ stage. stage.histories) s.1

left_length : (histories : List Scripted) (round next : ℕ) → length (left_by histories round next) + (before round histories + having round (take next histories)) ≡ sum_by tasks_in histories
left_length histories round next =
    let more = rounds_in histories - (round + 1) in
    let both = length-append (round_of round (drop next histories)) (rounds_from (round + 1) (rounds_in histories - (round + 1)) histories) in
    let part = round_length round (drop next histories) in
    let whole = round_length round histories in
    let split = having_split round next histories in
    let after = before_next round histories in
    let later = rounds_length (round + 1) (rounds_in histories - (round + 1)) histories in
    let all = before_all (round + 1 + (rounds_in histories - (round + 1))) histories (omega arith) in
    omega (arith, both, part, whole, split, after, later, all)

-- as many tasks were given as stand before the next one
given_length : (histories : List Scripted) (calls : List Call) (last : Stage) → Makes histories calls last → length (tasks_given calls) ≡ before last.round histories + having last.round (take last.next histories)
given_length histories calls last made =
    let same : last.histories ≡ histories = histories_stay (opening_stage histories) last calls made in
    let parts = ap length (parted histories calls last made) in
    let both = length-append (tasks_given calls) (left last) in
    let here : length (left last) ≡ length (left_by histories last.round last.next) = ap (λ list. length (left_by list last.round last.next)) same in
    let rest = left_length histories last.round last.next in
    let all = as_many_as_tasks histories in
    omega (arith, parts, both, here, rest, all)

-- ---- which they are

module _ (histories : List Scripted) (place n : ℕ) (history : Scripted) (at : slice_get histories place ≡ Some history) (has : n < tasks_in history) where
  -- the task stands before the rounds after its own
  rank_in_round : rank_of histories place n < before (n + 1) histories
  rank_in_round =
      let within = slice_get_within (round_of n histories) (having n (take place histories)) (task_of history n) (in_round n histories place history at has) in
      let next = before_next n histories in
      omega (arith, within, next)

  -- it stands before the next task exactly where it counts as polled
  module _ (last : Stage) where
    stands_before : n < polled_at last place history → rank_of histories place n < before last.round histories + having last.round (take last.next histories)
    stands_before polled = by (cases_lt n last.round) (cases_lt place last.next)
      where
        by : (n < last.round) ⊎ (last.round ≤ n) → (place < last.next) ⊎ (last.next ≤ place) → rank_of histories place n < before last.round histories + having last.round (take last.next histories)
        by (inl earlier) either =
            let here = rank_in_round in
            let rises = before_rises (n + 1) last.round histories (omega (arith, earlier)) in
            omega (arith, here, rises)
        by (inr late) (inl passed) =
            let test : ltb place last.next ≡ true = lt-ltb place last.next passed in
            let few = ap (λ b. min (cond b (last.round + 1) last.round) (tasks_in history)) test in
            let same : n ≡ last.round = omega (arith, polled, few, late) in
            let more = having_one_more n place last.next histories history at has passed in
            let befores = ap (λ k. before k histories) same in
            let havings = ap (λ k. having k (take last.next histories)) same in
            omega (arith, more, befores, havings)
        by (inr late) (inr ahead) =
            let test : ltb place last.next ≡ false = le-ltb place last.next ahead in
            let few = ap (λ b. min (cond b (last.round + 1) last.round) (tasks_in history)) test in
            absurd (omega (arith, polled, few, late))

    counts_as_polled : rank_of histories place n < before last.round histories + having last.round (take last.next histories) → n < polled_at last place history
    counts_as_polled stands = by (cases_lt place last.next) (cases_lt n last.round)
      where
        by : (place < last.next) ⊎ (last.next ≤ place) → (n < last.round) ⊎ (last.round ≤ n) → n < polled_at last place history
        by (inl passed) either =
            let test : ltb place last.next ≡ true = lt-ltb place last.next passed in
            let few = ap (λ b. min (cond b (last.round + 1) last.round) (tasks_in history)) test in
            let low : n < last.round + 1 = by_round (cases_lt last.round n) in
            omega (arith, few, low, has)
          where
            by_round : (last.round < n) ⊎ (n ≤ last.round) → n < last.round + 1
            by_round (inl after) =
                let next = before_next last.round histories in
                let whole = round_length last.round histories in
                let split = having_split last.round last.next histories in
                let rises = before_rises (last.round + 1) n histories (omega (arith, after)) in
                absurd (omega (arith, stands, next, whole, split, rises))
            by_round (inr low) = omega (arith, low)
        by (inr ahead) (inl earlier) =
            let test : ltb place last.next ≡ false = le-ltb place last.next ahead in
            let few = ap (λ b. min (cond b (last.round + 1) last.round) (tasks_in history)) test in
            omega (arith, few, earlier, has)
        by (inr ahead) (inr late) = absurd (too_late (cases_lt last.round n))
          where
            too_late : (last.round < n) ⊎ (n ≤ last.round) → ⊥
            too_late (inl after) =
                let next = before_next last.round histories in
                let whole = round_length last.round histories in
                let split = having_split last.round last.next histories in
                let rises = before_rises (last.round + 1) n histories (omega (arith, after)) in
                omega (arith, stands, next, whole, split, rises)
            too_late (inr low) =
                let same : n ≡ last.round = omega (arith, low, late) in
                let befores = ap (λ k. before k histories) same in
                let havings = ap (λ k. having k (take last.next histories)) same in
                let rises = having_rises n last.next place histories ahead in
                omega (arith, stands, befores, havings, rises)

pub polled_are_given : PolledAreGiven
polled_are_given histories calls last place n history made at has =
    let order = polls_go_in_rounds histories calls last made in
    let size = given_length histories calls last made in (
      λ polled.
          let stands = stands_before histories place n history at has last polled in
          let taken = ap length order in
          let most = length-take (polls_in calls) (in_rounds histories) in
          ap (λ tasks. slice_get tasks (rank_of histories place n)) order
          ∙ slice_get-take (polls_in calls) (rank_of histories place n) (in_rounds histories) (omega (arith, stands, size, taken, most))
          ∙ each_stands_at_its_rank histories place n history at has,
      λ there.
          let within = slice_get_within (tasks_given calls) (rank_of histories place n) (task_of history n) there in
          counts_as_polled histories place n history at has last (omega (arith, within, size)),
    )
