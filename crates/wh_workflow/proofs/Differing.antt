-- The mismatch of commands and a record is their first difference.
use Rattle.std.proofs.Common.{◌≡◌, ℕ, zero, suc, ◌+◌, ◌<◌, ◌⊎◌, Bool, true, false, cond, List, [], ◌∷◌, length, take, Some, None, refl, sym, ap, subst, ◌∙◌, inl, inr, arith, slice_get, IsTrue}
use Rattle.wh_events.specs.declared.event.Event.{Event}
use Rattle.wh_events.proofs.Placing.{bool_cases}
use Rattle.wh_workflow.specs.declared.command.Command.{Command}
use Rattle.wh_workflow.specs.declared.fault.Mismatch.{Mismatch}
use Rattle.wh_workflow.specs.declared.fault.Mismatch.TheVariants.{Different, CommandMissing, CommandExtra}
use Rattle.wh_workflow.specs.Names.{names, mismatch_from}
use Rattle.wh_workflow.specs.Differences.{AreNamedAlike, IsMatch, IsFirstDifference, FirstDifferenceDecides}

module _ (history : List Event) where
  -- the first difference, where the first command has the index
  abbrev IsFirstFrom : ℕ → List Command → List Event → Mismatch → Type 0
  IsFirstFrom index commands events (Different number) =
      (i : ℕ) × (command : Command) × (event : Event) × (slice_get commands i ≡ Some command) × (slice_get events i ≡ Some event) × (event.number ≡ number)
      × (¬ IsTrue (names history command event.body)) × AreNamedAlike history (take i commands) (take i events)
  IsFirstFrom index commands events (CommandMissing number) = (event : Event) × (slice_get events (length commands) ≡ Some event) × (event.number ≡ number) × AreNamedAlike history commands events
  IsFirstFrom index commands events (CommandExtra extra) = (extra ≡ length events + index) × (length events < length commands) × AreNamedAlike history commands events

  alike_more : (command : Command) (event : Event) (commands : List Command) (events : List Event) → names history command event.body ≡ true → AreNamedAlike history commands events → AreNamedAlike history (command ∷ commands) (event ∷ events)
  alike_more command event commands events named alike zero other other_event p q =
      let a : command ≡ other = cc in
      let b : event ≡ other_event = cc in
      subst (λ c. names history c other_event.body ≡ true) a (subst (λ (e : Event). names history command e.body ≡ true) b named)
  alike_more command event commands events named alike (suc k) other other_event p q = alike k other other_event p q

  first_more : (command : Command) (event : Event) (commands : List Command) (events : List Event) (index : ℕ) (m : Mismatch) → names history command event.body ≡ true → IsFirstFrom (index + 1) commands events m → IsFirstFrom index (command ∷ commands) (event ∷ events) m
  first_more command event commands events index (Different number) named r = (suc r.0, r.1, r.2, r.3, r.4, r.5, r.6, alike_more command event (take r.0 commands) (take r.0 events) named r.7)
  first_more command event commands events index (CommandMissing number) named r = (r.0, r.1, r.2, alike_more command event commands events named r.3)
  first_more command event commands events index (CommandExtra extra) named r = (let a = r.0 in omega arith, let b = r.1 in omega arith, alike_more command event commands events named r.2)

  match_more : (command : Command) (event : Event) (commands : List Command) (events : List Event) → names history command event.body ≡ true → IsMatch history commands events → IsMatch history (command ∷ commands) (event ∷ events)
  match_more command event commands events named r = record { equally_long = ap suc r.equally_long; alike = alike_more command event commands events named r.alike }

  abbrev Tells : ℕ → List Command → List Event → Type 0
  Tells index commands events =
      ((mismatch_from history index commands events ≡ None) × IsMatch history commands events)
      ⊎ ((m : Mismatch) × (mismatch_from history index commands events ≡ Some m) × IsFirstFrom index commands events m)

  from_test : (index : ℕ) (command : Command) (event : Event) (commands : List Command) (events : List Event) (test : Bool) → names history command event.body ≡ test
      → mismatch_from history index (command ∷ commands) (event ∷ events) ≡ cond test (mismatch_from history (index + 1) commands events) (Some (Different event.number))
  from_test index command event commands events test e = ap (λ b. cond b (mismatch_from history (index + 1) commands events) (Some (Different event.number))) e

  tell : (index : ℕ) (commands : List Command) (events : List Event) → Tells index commands events
  tell index [] [] = inl (refl, record { equally_long = refl; alike = λ i command event p q. cc })
  tell index [] (event ∷ events) = inr (CommandMissing event.number, refl, (event, refl, refl, λ i command other p q. cc))
  tell index (command ∷ commands) [] = inr (CommandExtra index, refl, (omega arith, omega arith, λ i other event p q. cc))
  tell index (command ∷ commands) (event ∷ events) =
      elim (bool_cases (names history command event.body)) [
        | inl named ↦ elim (tell (index + 1) commands events) [
          | inl none ↦ inl (from_test index command event commands events true named ∙ none.0, match_more command event commands events named none.1)
          | inr some ↦ inr (some.0, from_test index command event commands events true named ∙ some.1, first_more command event commands events index some.0 named some.2)
        ]
        | inr other ↦ inr (Different event.number, from_test index command event commands events false other, (zero, command, event, refl, refl, refl, (λ h. let w = other in cc), λ i c e p q. cc))
      ]

  match_none : (index : ℕ) (commands : List Command) (events : List Event) → IsMatch history commands events → mismatch_from history index commands events ≡ None
  match_none index [] [] r = refl
  match_none index [] (event ∷ events) r = absurd (let e = r.equally_long in omega arith)
  match_none index (command ∷ commands) [] r = absurd (let e = r.equally_long in omega arith)
  match_none index (command ∷ commands) (event ∷ events) r =
      from_test index command event commands events true (r.alike zero command event refl refl)
      ∙ match_none (index + 1) commands events (record { equally_long = (let e = r.equally_long in omega arith); alike = λ k. r.alike (suc k) })

  differs_at : (index : ℕ) (commands : List Command) (events : List Event) (i : ℕ) (command : Command) (event : Event) → slice_get commands i ≡ Some command → slice_get events i ≡ Some event → names history command event.body ≡ false
      → AreNamedAlike history (take i commands) (take i events) → mismatch_from history index commands events ≡ Some (Different event.number)
  differs_at index [] events i command event p q other alike = cc
  differs_at index (c ∷ commands) [] i command event p q other alike = cc
  differs_at index (c ∷ commands) (e ∷ events) zero command event p q other alike =
      let a : c ≡ command = cc in
      let b : e ≡ event = cc in
      from_test index c e commands events false (ap (λ x. names history x e.body) a ∙ (ap (λ (x : Event). names history command x.body) b ∙ other)) ∙ ap (λ (x : Event). Some (Different x.number)) b
  differs_at index (c ∷ commands) (e ∷ events) (suc k) command event p q other alike =
      from_test index c e commands events true (alike zero c e refl refl) ∙ differs_at (index + 1) commands events k command event p q other (λ j. alike (suc j))

  missing_at : (index : ℕ) (commands : List Command) (events : List Event) (event : Event) → slice_get events (length commands) ≡ Some event → AreNamedAlike history commands events → mismatch_from history index commands events ≡ Some (CommandMissing event.number)
  missing_at index [] [] event p alike = cc
  missing_at index [] (e ∷ events) event p alike = let b : e ≡ event = cc in ap (λ (x : Event). Some (CommandMissing x.number)) b
  missing_at index (c ∷ commands) [] event p alike = cc
  missing_at index (c ∷ commands) (e ∷ events) event p alike =
      from_test index c e commands events true (alike zero c e refl refl) ∙ missing_at (index + 1) commands events event p (λ j. alike (suc j))

  extra_at : (index : ℕ) (commands : List Command) (events : List Event) → length events < length commands → AreNamedAlike history commands events → mismatch_from history index commands events ≡ Some (CommandExtra (length events + index))
  extra_at index [] events b alike = absurd (omega arith)
  extra_at index (c ∷ commands) [] b alike = let same : index ≡ 0 + index = omega arith in ap (λ n. Some (CommandExtra n)) same
  extra_at index (c ∷ commands) (e ∷ events) b alike =
      let same : length events + (index + 1) ≡ suc (length events) + index = omega arith in
      from_test index c e commands events true (alike zero c e refl refl) ∙ (extra_at (index + 1) commands events (omega arith) (λ j. alike (suc j)) ∙ ap (λ n. Some (CommandExtra n)) same)

  first_is : (index : ℕ) (commands : List Command) (events : List Event) (m : Mismatch) → IsFirstFrom index commands events m → mismatch_from history index commands events ≡ Some m
  first_is index commands events (Different number) r =
      let other = elim (bool_cases (names history r.1 r.2.body)) as (λ _. names history r.1 r.2.body ≡ false) [ inl named ↦ absurd (r.6 named) | inr other ↦ other ] in
      differs_at index commands events r.0 r.1 r.2 r.3 r.4 other r.7 ∙ ap (λ n. Some (Different n)) r.5
  first_is index commands events (CommandMissing number) r = missing_at index commands events r.0 r.1 r.3 ∙ ap (λ n. Some (CommandMissing n)) r.2
  first_is index commands events (CommandExtra extra) r = extra_at index commands events r.1 r.2 ∙ ap (λ n. Some (CommandExtra n)) (sym r.0)

pub first_difference_decides : FirstDifferenceDecides
first_difference_decides history commands events =
    elim (tell history 1 commands events) [
      | inl none ↦ ((λ _. none.1, match_none history 1 commands events), λ difference. (λ e. let n = none.0 in cc, first_is history 1 commands events difference))
      | inr some ↦ (
        (λ e. let n = some.1 in cc, match_none history 1 commands events),
        λ difference. (
          λ e. let same : some.0 ≡ difference = (let n = some.1 in cc) in subst (IsFirstDifference history commands events) same some.2,
          first_is history 1 commands events difference,
        ),
      )
    ]
