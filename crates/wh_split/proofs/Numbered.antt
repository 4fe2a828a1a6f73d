-- In a history whose events have the numbers of their places, the cuts after a number are those of the events after
-- that place.
use Rattle.std.proofs.Common.{◌≡◌, ℕ, zero, suc, ◌+◌, ◌-◌, ◌≤◌, Bool, true, false, cond, List, [], ◌∷◌, drop, Some, slice_get, refl, ◌∙◌, arith}
use Rattle.std.specs.Prelude.{nat_lt}
use Rattle.std.proofs.lemmas.Bool.Decides.{nat_tests}
use Rattle.wh_events.specs.declared.event.Event.{Event}
use Rattle.wh_events.specs.Cuts.{is_cut, cuts}
use Rattle.wh_split.specs.Splits.{IsNumbered, first_of, first_after, next_cut}

-- the events have the numbers that follow n
abbrev pub NumberedFrom : ℕ → List Event → Type 0
NumberedFrom n [] = Unit {0}
NumberedFrom n (event ∷ rest) = (event.number ≡ n + 1) × NumberedFrom (n + 1) rest

numbered_from : (n : ℕ) (events : List Event) → ((k : ℕ) (event : Event) → slice_get events k ≡ Some event → event.number ≡ n + (k + 1)) → NumberedFrom n events
numbered_from n [] h = tt
numbered_from n (event ∷ rest) h = (h 0 event refl, numbered_from (n + 1) rest (λ k other at. h (suc k) other at ∙ (let same : n + (suc k + 1) ≡ (n + 1) + (k + 1) = omega arith in same)))

numbered_by_place : (events : List Event) → IsNumbered events → NumberedFrom 0 events
numbered_by_place events h =
    numbered_from 0 events (λ k event at. let index : (k + 1) - 1 ≡ k = omega arith in let same : k + 1 ≡ 0 + (k + 1) = omega arith in h (k + 1) event (omega arith, rw index at) ∙ same)

-- all cuts of numbered events are past the numbers before them
first_past : (from n : ℕ) (events : List Event) → NumberedFrom n events → from ≤ n → first_after from (cuts events) ≡ first_of (cuts events)
first_past from n [] numbered low = refl
first_past from n (event ∷ rest) numbered low = by (is_cut event rest) (first_past from (n + 1) rest numbered.1 (omega arith))
  where
    by : (b : Bool) → first_after from (cuts rest) ≡ first_of (cuts rest) → first_after from (cond b (event.number ∷ cuts rest) (cuts rest)) ≡ first_of (cond b (event.number ∷ cuts rest) (cuts rest))
    by true later = let number = numbered.0 in let past : nat_lt from event.number ≡ true = grind (arith, nat_tests) in rw past refl
    by false later = later

first_after-drop : (count from n : ℕ) (events : List Event) → NumberedFrom n events → from ≡ n + count → first_after from (cuts events) ≡ first_of (cuts (drop count events))
first_after-drop zero from n events numbered is = first_past from n events numbered (omega arith)
first_after-drop (suc count) from n [] numbered is = refl
first_after-drop (suc count) from n (event ∷ rest) numbered is = by (is_cut event rest) (first_after-drop count from (n + 1) rest numbered.1 (omega arith))
  where
    by : (b : Bool) → first_after from (cuts rest) ≡ first_of (cuts (drop count rest)) → first_after from (cond b (event.number ∷ cuts rest) (cuts rest)) ≡ first_of (cuts (drop count rest))
    by true later = let number = numbered.0 in let behind : nat_lt from event.number ≡ false = grind (arith, nat_tests) in rw behind later
    by false later = later

-- the first cut after a number is the first of what is after it
pub next_cut-drop : (from : ℕ) (events : List Event) → IsNumbered events → next_cut events from ≡ first_of (cuts (drop from events))
next_cut-drop from events numbered = first_after-drop from from 0 events (numbered_by_place events numbered) (omega arith)
