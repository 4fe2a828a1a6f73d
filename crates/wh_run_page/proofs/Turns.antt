-- A page leaves a thing out only for such as come before it, or as early.
use Rattle.std.proofs.Common.{◌≡◌, ◌≤◌, ◌⊎◌, inl, inr, ℕ, zero, suc, ◌+◌, ◌-◌, Bool, true, false, cond, Option, Some, None, List, [], ◌∷◌, ◌++◌, length, get_or, refl, sym, subst, arith, All, Contains}
use Rattle.std.specs.Prelude.{◌||◌, ◌/◌, ℤ, pos, int_lt, unsigned_abs, nat_le, min}
use Rattle.std.proofs.lemmas.Bool.{leb-true}
use Rattle.std.proofs.lemmas.Bool.Decides.{nat_tests}
use Rattle.std.proofs.lemmas.List.{get_or_past}
use Rattle.std.proofs.lemmas.List.Elements.{All-nil, All-cons, All-weaker, All-contains, All-contains_itself, Contains-append_left, Contains-append_right, Contains-push}
use Rattle.wh_html.specs.declared.page.ThingOutcome.{ThingOutcome}
use Rattle.wh_html.specs.declared.page.ThingOutcome.TheVariants.{Open, Done, Failed, Canceled}
use Rattle.wh_view.specs.declared.view.View.{View}
use Rattle.wh_view.specs.declared.view.ViewedEvent.{ViewedEvent}
use Rattle.wh_view.specs.declared.view.ViewedThing.{ViewedThing}
use Rattle.wh_run_page.specs.Choices.{is_hit, outcome_weight, weight, has_room, room_after, heaviest, count_from, time_until, AreHeaviest, AreChosen}
use Rattle.wh_run_page.specs.Laws.{IsShownUnless, time_of, ComesInTurn, WorstAreShown}
use Rattle.wh_run_page.specs.Moments.{first_time, index_at, millis_of, time_or, times_from, times_of}
use Rattle.wh_run_page.specs.Rows.{is_failed, is_open, outcome_of}

front-all : (P : ViewedThing → Type 0) (b : Bool) (x : ViewedThing) (xs : List ViewedThing) → (b ≡ true → P x) → All P xs → All P (cond b (x ∷ []) [] ++ xs)
front-all P true x xs own rest = All-cons P x xs (own refl) rest
front-all P false x xs own rest = rest

has-weight : (least room own : ℕ) → has_room least room own ≡ true → least ≤ own
has-weight least room own h = grind (arith, nat_tests)

is-light : (least room own : ℕ) → has_room least room own ≡ false → own ≤ least
is-light least room own h = grind (arith, nat_tests)

module _ (weigh : ViewedThing → ℕ) where
  -- what is shown weighs the least or more
  heavy : (least room : ℕ) (xs : List ViewedThing) → All (λ y. least ≤ weigh y) (heaviest weigh least room xs)
  heavy least room [] = All-nil (λ y. least ≤ weigh y)
  heavy least room (x ∷ xs) =
      front-all (λ y. least ≤ weigh y) (has_room least room (weigh x)) x (heaviest weigh least (room_after least room (weigh x)) xs)
      (has-weight least room (weigh x)) (heavy least (room_after least room (weigh x)) xs)

  -- a thing is shown, or no heavier than the least
  abbrev IsKept : (least : ℕ) (shown : List ViewedThing) → ViewedThing → Type 0
  IsKept least shown x = Contains shown x ⊎ (weigh x ≤ least)

  first-kept : (least room : ℕ) (x : ViewedThing) (later : List ViewedThing) (b : Bool) → has_room least room (weigh x) ≡ b
      → IsKept least (cond b (x ∷ []) [] ++ later) x
  first-kept least room x later true e = inl (Contains-append_left (x ∷ []) later x (Contains-push [] x))
  first-kept least room x later false e = inr (is-light least room (weigh x) e)

  later-kept : (least : ℕ) (front later : List ViewedThing) (y : ViewedThing) → IsKept least later y → IsKept least (front ++ later) y
  later-kept least front later y (inl h) = inl (Contains-append_right front later y h)
  later-kept least front later y (inr h) = inr h

  kept : (least room : ℕ) (xs : List ViewedThing) → All (IsKept least (heaviest weigh least room xs)) xs
  kept least room [] = All-nil (IsKept least [])
  kept least room (x ∷ xs) =
      let later = heaviest weigh least (room_after least room (weigh x)) xs in
      let front = cond (has_room least room (weigh x)) (x ∷ []) [] in
      All-cons (IsKept least (front ++ later)) x xs (first-kept least room x later (has_room least room (weigh x)) refl)
      (All-weaker (IsKept least later) (IsKept least (front ++ later)) (later-kept least front later) xs (kept least (room_after least room (weigh x)) xs))

  -- a thing is shown, unless all that is shown is as heavy
  turn-by : (shown : List ViewedThing) (x : ViewedThing) (least : ℕ) (passes : ViewedThing → Bool) → IsKept least shown x → All (λ y. least ≤ weigh y) shown
      → ((y : ViewedThing) → weigh x ≤ weigh y → passes y ≡ true) → IsShownUnless shown x passes
  turn-by shown x least passes (inl h) above weaker = inl h
  turn-by shown x least passes (inr h) above weaker =
      inr (All-weaker (λ y. least ≤ weigh y) (λ y. passes y ≡ true) (λ y k. weaker y (omega arith)) shown above)

  turn-many : (things shown : List ViewedThing) → AreHeaviest weigh things shown → (x : ViewedThing) → Contains things x → (passes : ViewedThing → Bool)
      → ((y : ViewedThing) → weigh x ≤ weigh y → passes y ≡ true) → IsShownUnless shown x passes
  turn-many things shown own x h passes weaker =
      let room = 300 - count_from weigh (own.least + 1) things in
      let all = heaviest weigh own.least room things in
      subst (λ xs. IsShownUnless xs x passes) (sym own.are)
      (turn-by all x own.least passes (All-contains (IsKept own.least all) things x (kept own.least room things) h) (heavy own.least room things) weaker)

  turn-or : (things shown : List ViewedThing) (b : Bool) → nat_le (length things) 300 ≡ b → AreChosen weigh things shown
      → (x : ViewedThing) → Contains things x → (passes : ViewedThing → Bool)
      → ((y : ViewedThing) → weigh x ≤ weigh y → passes y ≡ true) → IsShownUnless shown x passes
  turn-or things shown true e own x h passes weaker =
      inl (subst (λ xs. Contains xs x) (sym (own.few (leb-true (length things) 300 e))) h)
  turn-or things shown false e own x h passes weaker = turn-many things shown (own.many (grind (arith, nat_tests))) x h passes weaker

-- what a thing weighs, by whether it has the event of the fault, its outcome and how long it took
abbrev weigh_by : (hit : Bool) → ThingOutcome → (millis : ℕ) → ℕ
weigh_by hit outcome millis = cond hit 4_611_686_018_427_387_904 (outcome_weight outcome millis)

hit-most : (hit : Bool) (outcome : ThingOutcome) (millis : ℕ) → hit ≡ true → 4_611_686_018_427_387_904 ≤ weigh_by hit outcome millis
hit-most true outcome millis e = omega arith
hit-most false outcome millis e = cc

hit-heavy : (hit : Bool) (outcome : ThingOutcome) (millis : ℕ) → 4_611_686_018_427_387_904 ≤ weigh_by hit outcome millis → hit ≡ true
hit-heavy true outcome millis h = refl
hit-heavy false Open millis h = absurd (omega arith)
hit-heavy false Done millis h = absurd (omega arith)
hit-heavy false Failed millis h = absurd (omega arith)
hit-heavy false Canceled millis h = absurd (omega arith)

failed-most : (hit : Bool) (outcome : ThingOutcome) (millis : ℕ) → is_failed outcome ≡ true → 4_611_686_018_427_387_903 ≤ weigh_by hit outcome millis
failed-most true outcome millis e = omega arith
failed-most false Open millis e = cc
failed-most false Done millis e = cc
failed-most false Failed millis e = omega arith
failed-most false Canceled millis e = cc

failed-heavy : (hit : Bool) (outcome : ThingOutcome) (millis : ℕ) → 4_611_686_018_427_387_903 ≤ weigh_by hit outcome millis → (hit || is_failed outcome) ≡ true
failed-heavy true outcome millis h = refl
failed-heavy false Open millis h = absurd (omega arith)
failed-heavy false Done millis h = absurd (omega arith)
failed-heavy false Failed millis h = refl
failed-heavy false Canceled millis h = absurd (omega arith)

open-most : (hit : Bool) (outcome : ThingOutcome) (millis : ℕ) → is_open outcome ≡ true → 4_611_686_018_427_387_902 ≤ weigh_by hit outcome millis
open-most true outcome millis e = omega arith
open-most false Open millis e = omega arith
open-most false Done millis e = cc
open-most false Failed millis e = cc
open-most false Canceled millis e = cc

open-heavy : (hit : Bool) (outcome : ThingOutcome) (millis : ℕ) → 4_611_686_018_427_387_902 ≤ weigh_by hit outcome millis → ((hit || is_failed outcome) || is_open outcome) ≡ true
open-heavy true outcome millis h = refl
open-heavy false Open millis h = refl
open-heavy false Done millis h = absurd (omega arith)
open-heavy false Failed millis h = refl
open-heavy false Canceled millis h = absurd (omega arith)

-- what a thing weighs that took no longer than a history lasts
slow-most : (hit : Bool) (outcome : ThingOutcome) (millis : ℕ) → millis ≤ 253_402_300_799_999 → millis ≤ weigh_by hit outcome millis
slow-most true outcome millis low = omega arith
slow-most false Open millis low = omega arith
slow-most false Done millis low = omega arith
slow-most false Failed millis low = omega arith
slow-most false Canceled millis low = omega arith

slow-heavy : (hit : Bool) (outcome : ThingOutcome) (millis other : ℕ) → other ≤ weigh_by hit outcome millis
    → (((hit || is_failed outcome) || is_open outcome) || nat_le other millis) ≡ true
slow-heavy true outcome millis other h = refl
slow-heavy false Open millis other h = refl
slow-heavy false Done millis other h = let within : other ≤ millis = omega arith in grind (arith, nat_tests)
slow-heavy false Failed millis other h = refl
slow-heavy false Canceled millis other h = let within : other ≤ millis = omega arith in grind (arith, nat_tests)

-- no time is later than the year 9999
millis-low : (time : ℤ) → millis_of time ≤ 253_402_300_799_999
millis-low time = by (int_lt time (pos 0))
  where
    by : (b : Bool) → cond b 0 (min (unsigned_abs time / 1_000_000) 253_402_300_799_999) ≤ 253_402_300_799_999
    by true = omega arith
    by false = omega arith

time-low : (other : ℕ) (time : Option ℤ) → other ≤ 253_402_300_799_999 → time_or other time ≤ 253_402_300_799_999
time-low other None h = h
time-low other (Some time) h = millis-low time

first-low : (events : List ViewedEvent) → first_time events ≤ 253_402_300_799_999
unfolding first_time
first-low [] = omega arith
first-low (event ∷ events) = time-low (first_time events) event.read.time (first-low events)

low-zero : (a : ℕ) → a ≡ 0 → a ≤ 253_402_300_799_999
low-zero a e = omega arith

low-less : (a b : ℕ) → a ≤ 253_402_300_799_999 → a - b ≤ 253_402_300_799_999
low-less a b h = omega arith

times-low : (before : ℕ) (events : List ViewedEvent) (i : ℕ) → before ≤ 253_402_300_799_999 → get_or (times_from before events) i 0 ≤ 253_402_300_799_999
unfolding times_from
times-low before [] i h =
    let none : List ℕ = [] in
    low-zero (get_or none i 0) (get_or_past none i 0 (omega arith))
times-low before (event ∷ events) zero h = time-low before event.read.time h
times-low before (event ∷ events) (suc i) h = times-low (time_or before event.read.time) events i (time-low before event.read.time h)

span-low : (events : List ViewedEvent) (opened : ℕ) (ended : Option ℕ) → time_until (times_of events) opened ended ≤ 253_402_300_799_999
span-low events opened None = omega arith
span-low events opened (Some ended) =
    low-less (get_or (times_of events) ended 0) (get_or (times_of events) opened 0)
    (times-low (first_time events) events ended (first-low events))

through : (a b c : ℕ) → a ≤ b → b ≤ c → a ≤ c
through a b c h k = omega arith

turn : (view : View) (fault : Option ℕ) (shown : List ViewedThing) → AreChosen (weight view (times_of view.events) fault) view.things shown
    → (x : ViewedThing) → Contains view.things x → ComesInTurn view (times_of view.events) fault shown x
turn view fault shown chosen x h =
    let times = times_of view.events in
    let weigh : ViewedThing → ℕ = weight view times fault in
    let unless : (passes : ViewedThing → Bool) → ((y : ViewedThing) → weigh x ≤ weigh y → passes y ≡ true) → IsShownUnless shown x passes
    = turn-or weigh view.things shown _ refl chosen x h in
    let hit = is_hit fault x in
    let outcome = outcome_of view x in
    let millis = time_of times x in
    let low = span-low view.events x.opened x.ended in
    record {
      hit = λ e. unless _ (λ y k. hit-heavy (is_hit fault y) (outcome_of view y) (time_of times y) (through _ (weigh x) (weigh y) (hit-most hit outcome millis e) k));
      failed = λ e. unless _ (λ y k. failed-heavy (is_hit fault y) (outcome_of view y) (time_of times y) (through _ (weigh x) (weigh y) (failed-most hit outcome millis e) k));
      pending = λ e. unless _ (λ y k. open-heavy (is_hit fault y) (outcome_of view y) (time_of times y) (through _ (weigh x) (weigh y) (open-most hit outcome millis e) k));
      slow = unless _ (λ y k. slow-heavy (is_hit fault y) (outcome_of view y) (time_of times y) millis (through _ (weigh x) (weigh y) (slow-most hit outcome millis low) k));
    }

pub worst_are_shown : WorstAreShown
worst_are_shown view said page own =
    let times = times_of view.events in
    let fault = index_at said.place in
    All-weaker (Contains view.things) (ComesInTurn view times fault own.shown) (turn view fault own.shown own.chosen) view.things
    (All-contains_itself view.things)
