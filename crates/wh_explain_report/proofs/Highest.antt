-- The highest attempt of the activities of a run.
use Rattle.std.proofs.Common.{◌≡◌, ◌∙◌, ◌<◌, ◌≤◌, ℕ, zero, suc, List, [], ◌∷◌, length, get_or, inl, inr, refl, sym, arith}
use Rattle.std.proofs.Math.Nat.{le-max_left, le-max_right, max-eq_left, max-eq_right}
use Rattle.std.proofs.lemmas.Bool.{cases_lt}
use Rattle.std.proofs.lemmas.List.Elements.{Contains-append_right, Contains-get_or}
use Rattle.std.specs.Prelude.{◌⊎◌, max}
use Rattle.std.specs.List.{Contains, fold}
use Rattle.wh_view.specs.declared.view.ViewedEvent.{ViewedEvent}
use Rattle.wh_explain_report.specs.Laws.{AttemptsAreHighest}
use Rattle.wh_explain_report.specs.RunFacts.{attempt_of, later_attempt, most_attempts}

-- what is the highest so far is no higher than the highest in the end
so_far : (most : ℕ) (events : List ViewedEvent) → most ≤ fold later_attempt most events
so_far most [] = omega arith
so_far most (event ∷ events) =
    let first = le-max_left most (attempt_of event) in
    let later = so_far (max most (attempt_of event)) events in
    omega arith

-- so is each attempt
each : (most : ℕ) (events : List ViewedEvent) (k : ℕ) (d : ViewedEvent) → k < length events
    → attempt_of (get_or events k d) ≤ fold later_attempt most events
each most [] k d less = absurd (omega arith)
each most (event ∷ events) zero d less =
    let first = le-max_right most (attempt_of event) in
    let later = so_far (max most (attempt_of event)) events in
    omega arith
each most (event ∷ events) (suc k) d less = each (max most (attempt_of event)) events k d (omega arith)

-- the highest was there before, or it is the attempt of an event
abbrev IsReached : (most : ℕ) → List ViewedEvent → (highest : ℕ) → Type 0
IsReached most events highest =
    (highest ≡ most) ⊎ ((event : ViewedEvent) × Contains events event × (attempt_of event ≡ highest))

either : (a b : ℕ) → (max a b ≡ a) ⊎ (max a b ≡ b)
either a b = by (cases_lt a b)
  where
    by : (a < b) ⊎ (b ≤ a) → (max a b ≡ a) ⊎ (max a b ≡ b)
    by (inl less) = inr (max-eq_right (omega (arith, less)))
    by (inr more) = inl (max-eq_left more)

reached : (most : ℕ) (events : List ViewedEvent) → IsReached most events (fold later_attempt most events)
reached most [] = inl refl
reached most (event ∷ events) = by (reached (max most (attempt_of event)) events)
  where
    highest : ℕ
    highest = fold later_attempt (max most (attempt_of event)) events

    first : (highest ≡ max most (attempt_of event)) → (max most (attempt_of event) ≡ most) ⊎ (max most (attempt_of event) ≡ attempt_of event)
        → IsReached most (event ∷ events) highest
    first is (inl old) = inl (is ∙ old)
    first is (inr own) = inr (event, (0, omega arith, refl), sym (is ∙ own))

    by : IsReached (max most (attempt_of event)) events highest → IsReached most (event ∷ events) highest
    by (inl is) = first is (either most (attempt_of event))
    by (inr later) = inr (later.0, Contains-append_right (event ∷ []) events later.0 later.1, later.2)

pub attempts_are_highest : AttemptsAreHighest
attempts_are_highest events = record { bounds = each 0 events; reached = reached 0 events }
