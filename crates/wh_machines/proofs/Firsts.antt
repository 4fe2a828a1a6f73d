-- The first event that passes a test, with one event more and among the first events.
use Rattle.std.proofs.Common.{◌≡◌, ℕ, zero, suc, ◌+◌, ◌<◌, ◌≤◌, Bool, true, false, ◌||◌, cond, leb, List, [], ◌∷◌, ◌++◌, length, take, Option, Some, None, is_some, refl, sym, ap, ◌∙◌, append_assoc, append-nil, arith}
use Rattle.std.proofs.lemmas.Bool.Decides.{nat_tests}
use Rattle.std.proofs.lemmas.List.{length_push}
use Rattle.wh_events.specs.declared.event.Event.{Event}
use Rattle.wh_events.specs.Machines.{or_else, closes, starts, closed_by, is_started, canceled_after, status_of}
use Rattle.wh_events.specs.Places.{place_fault, fault_after}
use Rattle.wh_machines.proofs.Histories.{number_if, fault_after-push, place_none, later_none}
use Rattle.wh_machines.specs.Private.Openings.{first_by, closes_test, starts_test, cancels_test, up_to, status_up_to, opening_with}
use Rattle.wh_machines.proofs.Placed.{NumberedFrom}

module _ (test : List Event → Event → Bool) where
  pub first_by-push : (before events : List Event) (event : Event) → first_by test before (events ++ event ∷ []) ≡ or_else (first_by test before events) (number_if (test (before ++ events) event) event)
  first_by-push before [] event = ap (λ list. number_if (test list event) event) (sym (append-nil before))
  first_by-push before (first ∷ rest) event =
      by (test before first)
      (first_by-push (before ++ first ∷ []) rest event ∙ ap (λ list. or_else (first_by test (before ++ first ∷ []) rest) (number_if (test list event) event)) (append_assoc before (first ∷ []) rest))
    where
      by : (b : Bool) → first_by test (before ++ first ∷ []) (rest ++ event ∷ []) ≡ or_else (first_by test (before ++ first ∷ []) rest) (number_if (test (before ++ first ∷ rest) event) event) → cond b (Some first.number) (first_by test (before ++ first ∷ []) (rest ++ event ∷ [])) ≡ or_else (cond b (Some first.number) (first_by test (before ++ first ∷ []) rest)) (number_if (test (before ++ first ∷ rest) event) event)
      by true later = refl
      by false later = later

  -- events in place that each fail the test
  pub first_by_none : (number : ℕ) → ((before : List Event) (event : Event) → fault_after [] before ≡ None → place_fault before event ≡ None → length before < number → test before event ≡ false)
      → (before events : List Event) → fault_after [] before ≡ None → fault_after before events ≡ None → length before + length events ≤ number → first_by test before events ≡ None
  first_by_none number quiet before [] h k fits = refl
  first_by_none number quiet before (event ∷ rest) h k fits =
      let here : place_fault before event ≡ None = place_none _ _ _ k in
      let below : length before < number = omega arith in
      let more = length_push before event in
      let fits_later : length (before ++ event ∷ []) + length rest ≤ number = omega arith in
      let later = first_by_none number quiet (before ++ event ∷ []) rest (fault_after-push [] before event h here) (later_none _ _ _ k) fits_later in
      rw (quiet before event h here below) later

  up_to_low : (place n : ℕ) (before events : List Event) → NumberedFrom n events → place ≤ n → up_to place (first_by test before events) ≡ None
  up_to_low place n before [] numbered low = refl
  up_to_low place n before (event ∷ rest) numbered low = by (test before event) (up_to_low place (n + 1) (before ++ event ∷ []) rest numbered.1 (omega arith))
    where
      by : (b : Bool) → up_to place (first_by test (before ++ event ∷ []) rest) ≡ None → up_to place (cond b (Some event.number) (first_by test (before ++ event ∷ []) rest)) ≡ None
      by true later = let number = numbered.0 in let high : leb event.number place ≡ false = grind (arith, nat_tests) in rw high refl
      by false later = later

  pub first_by-take : (count n : ℕ) (before events : List Event) → NumberedFrom n events → first_by test before (take count events) ≡ up_to (n + count) (first_by test before events)
  first_by-take zero n before events numbered = sym (up_to_low (n + 0) n before events numbered (omega arith))
  first_by-take (suc count) n before [] numbered = refl
  first_by-take (suc count) n before (event ∷ rest) numbered =
      let same : (n + 1) + count ≡ n + suc count = omega arith in
      by (test before event) (first_by-take count (n + 1) (before ++ event ∷ []) rest numbered.1 ∙ ap (λ place. up_to place (first_by test (before ++ event ∷ []) rest)) same)
    where
      by : (b : Bool) → first_by test (before ++ event ∷ []) (take count rest) ≡ up_to (n + suc count) (first_by test (before ++ event ∷ []) rest) → cond b (Some event.number) (first_by test (before ++ event ∷ []) (take count rest)) ≡ up_to (n + suc count) (cond b (Some event.number) (first_by test (before ++ event ∷ []) rest))
      by true later = let number = numbered.0 in let low : leb event.number (n + suc count) ≡ true = grind (arith, nat_tests) in rw low refl
      by false later = later

pub closed_by-first : (number : ℕ) (before events : List Event) → closed_by number events ≡ first_by (closes_test number) before events
closed_by-first number before [] = refl
closed_by-first number before (event ∷ rest) = ap (λ o. cond (closes number event) (Some event.number) o) (closed_by-first number (before ++ event ∷ []) rest)

pub is_started-first : (number : ℕ) (before events : List Event) → is_started events number ≡ is_some (first_by (starts_test number) before events)
is_started-first number before [] = refl
is_started-first number before (event ∷ rest) = by (starts number event) (is_started-first number (before ++ event ∷ []) rest)
  where
    by : (b : Bool) → is_started rest number ≡ is_some (first_by (starts_test number) (before ++ event ∷ []) rest) → (b || is_started rest number) ≡ is_some (cond b (Some event.number) (first_by (starts_test number) (before ++ event ∷ []) rest))
    by true later = refl
    by false later = later

pub canceled_after-first : (number : ℕ) (before events : List Event) → canceled_after before number events ≡ is_some (first_by (cancels_test number) before events)
canceled_after-first number before [] = refl
canceled_after-first number before (event ∷ rest) = by (cancels_test number before event) (canceled_after-first number (before ++ event ∷ []) rest)
  where
    by : (b : Bool) → canceled_after (before ++ event ∷ []) number rest ≡ is_some (first_by (cancels_test number) (before ++ event ∷ []) rest) → (b || canceled_after (before ++ event ∷ []) number rest) ≡ is_some (cond b (Some event.number) (first_by (cancels_test number) (before ++ event ∷ []) rest))
    by true later = refl
    by false later = later

zero_plus : (place : ℕ) → 0 + place ≡ place
zero_plus place = omega arith

first_up_to : (test : List Event → Event → Bool) (events : List Event) (place : ℕ) → NumberedFrom 0 events → first_by test [] (take place events) ≡ up_to place (first_by test [] events)
first_up_to test events place numbered = first_by-take test place 0 [] events numbered ∙ ap (λ n. up_to n (first_by test [] events)) (zero_plus place)

-- where a thing stood is read from the first events of each effect
pub status_up_to_is : (events : List Event) (number place : ℕ) (previous : Option ℕ) → NumberedFrom 0 events → status_up_to place (opening_with events number previous) ≡ status_of (take place events) number
status_up_to_is events number place previous numbered =
    let closed = closed_by-first number [] (take place events) ∙ first_up_to (closes_test number) events place numbered in
    let cancelling = canceled_after-first number [] (take place events) ∙ ap is_some (first_up_to (cancels_test number) events place numbered) in
    let started = is_started-first number [] (take place events) ∙ ap is_some (first_up_to (starts_test number) events place numbered) in
    sym (rw (closed, cancelling, started) refl)
