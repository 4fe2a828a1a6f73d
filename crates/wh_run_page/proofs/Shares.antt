-- What the rows of a page say that is drawn adds up to its lanes.
use Rattle.std.proofs.Common.{◌≡◌, ◌∙◌, ◌≤◌, ◌<◌, ◌&&◌, ℕ, zero, suc, ◌+◌, ◌-◌, Bool, true, false, not, cond, Option, Some, None, List, [], ◌∷◌, ◌++◌, length, map, drop, get_or, refl, sym, ap, subst, arith, All}
use Rattle.std.specs.Prelude.{◌==◌, bytes_eq, nat_le, nat_lt, count_by, unwrap_or}
use Rattle.std.specs.List.{sum_by, position_or_len}
use Rattle.std.proofs.lemmas.Bool.{and_parts, and_from, eqb-true, eq-eqb, leb-true, lt-ltb, le-ltb, ltb-false}
use Rattle.std.proofs.lemmas.Bool.Decides.{nat_tests}
use Rattle.std.proofs.lemmas.List.{length-drop, get_or-map, get_or_default}
use Rattle.std.proofs.lemmas.List.Elements.{All-cons, All-head, All-tail}
use Rattle.std.proofs.lemmas.List.Sums.{sum_by-cons, passes_at_first}
use Rattle.std.proofs.lemmas.Slice.Eq.{bytes_eq-Decides}
use Rattle.wh_html.specs.Words.{kind_word}
use Rattle.wh_html.specs.declared.page.ThingOutcome.{ThingOutcome}
use Rattle.wh_html.specs.declared.page.ThingOutcome.TheVariants.{Open, Done, Failed, Canceled}
use Rattle.wh_html.specs.declared.page.RowPart.{RowPart}
use Rattle.wh_html.specs.declared.page.RowPart.TheVariants.{Alone, First, Later}
use Rattle.wh_view.specs.declared.view.View.{View}
use Rattle.wh_view.specs.declared.view.ViewedThing.{ViewedThing}
use Rattle.wh_run_page.specs.Choices.{weight, has_room, room_after, heaviest, count_from, AreChosen}
use Rattle.wh_run_page.specs.Lanes.{lane_kind, lane_of, lanes_of}
use Rattle.wh_run_page.specs.Laws.{drawn_in, RowsAddUp, RowsTellOfTheirThings, TellsOfItsThings}
use Rattle.wh_run_page.specs.Moments.{index_at, times_of}
use Rattle.wh_run_page.specs.Pages.{timed_page}
use Rattle.wh_run_page.specs.Rows.{first_of, firsts_of, part_of, placed_at, placed_from, placed_things, are_many, share_row, shared_name, is_failed, is_open, outcome_of}
use Rattle.wh_run_page.proofs.Chosen.{lanes-length}
use Rattle.wh_run_page.proofs.Told.{at-drop, rest-drop}

-- things that share a row share it with the same ones
same-sharers : (view : View) (many : Bool) (x y z : ViewedThing) → share_row view many x y ≡ true → share_row view many x z ≡ share_row view many y z
same-sharers view true x y z h =
    let parts = and_parts _ _ h in
    let kind : kind_word (lane_kind x.kind) ≡ kind_word (lane_kind y.kind) = (bytes_eq-Decides _ _).0 parts.0 in
    let name : shared_name view x ≡ shared_name view y = (bytes_eq-Decides _ _).0 parts.1 in
    ap (λ k. bytes_eq k (kind_word (lane_kind z.kind)) && bytes_eq (shared_name view x) (shared_name view z)) kind
    ∙ ap (λ n. bytes_eq (kind_word (lane_kind y.kind)) (kind_word (lane_kind z.kind)) && bytes_eq n (shared_name view z)) name
same-sharers view false x y z h = ap (λ n. n == z.opened) (eqb-true x.opened y.opened h)

shares-itself : (view : View) (many : Bool) (x : ViewedThing) → share_row view many x x ≡ true
shares-itself view true x =
    let kind = kind_word (lane_kind x.kind) in
    let name = shared_name view x in
    and_from (bytes_eq kind kind) (bytes_eq name name) ((bytes_eq-Decides kind kind).1 refl) ((bytes_eq-Decides name name).1 refl)
shares-itself view false x = eq-eqb x.opened x.opened refl

shares-back : (view : View) (many : Bool) (x y : ViewedThing) → share_row view many x y ≡ true → share_row view many y x ≡ true
shares-back view many x y h = sym (same-sharers view many x y x h) ∙ shares-itself view many x

same-test : (a b : Bool) → (a ≡ true → b ≡ true) → (b ≡ true → a ≡ true) → a ≡ b
same-test true b there back = sym (there refl)
same-test false true there back = back refl
same-test false false there back = refl

place-or : (n m : ℕ) (b : Bool) → nat_lt n m ≡ b → n ≤ m → unwrap_or (cond b (Some n) None) m ≡ n
place-or n m true e h = refl
place-or n m false e h = let high = ltb-false n m e in let same : m ≡ n = omega arith in same

-- one more number below a bound
below-one : (n k : ℕ) → cond (nat_lt n (k + 1)) 1 0 ≡ cond (nat_lt n k) 1 0 + cond (n == k) 1 0
below-one n k = grind (arith, nat_tests)

module _ {A : Type 0} where
  count-cons : (p : A → Bool) (x : A) (xs : List A) → count_by p (x ∷ xs) ≡ cond (p x) 1 0 + count_by p xs
  count-cons p x xs = sum_by-cons (λ y. cond (p y) 1 0) x xs

  -- tests that agree pass at the same place, and as often
  place-agrees : (p q : A → Bool) → ((x : A) → p x ≡ q x) → (xs : List A) → position_or_len p xs ≡ position_or_len q xs
  place-agrees p q h [] = refl
  place-agrees p q h (x ∷ xs) =
      ap (λ b. cond (not b) (1 + position_or_len p xs) 0) (h x) ∙ ap (λ n. cond (not (q x)) (1 + n) 0) (place-agrees p q h xs)

  place-within : (p : A → Bool) (xs : List A) → position_or_len p xs ≤ length xs
  place-within p [] = omega arith
  place-within p (x ∷ xs) = by (not (p x)) (place-within p xs)
    where
      by : (b : Bool) → position_or_len p xs ≤ length xs → cond b (1 + position_or_len p xs) 0 ≤ length (x ∷ xs)
      by true h = omega arith
      by false h = omega arith

  count-agrees : (p q : A → Bool) → ((x : A) → p x ≡ q x) → (xs : List A) → count_by p xs ≡ count_by q xs
  count-agrees p q h [] = refl
  count-agrees p q h (x ∷ xs) =
      sum_by-cons (λ y. cond (p y) 1 0) x xs ∙ ap (λ b. cond b 1 0 + count_by p xs) (h x)
      ∙ ap (λ n. cond (q x) 1 0 + n) (count-agrees p q h xs) ∙ sym (sum_by-cons (λ y. cond (q y) 1 0) x xs)

  count-none : (p : A → Bool) → ((x : A) → p x ≡ false) → (xs : List A) → count_by p xs ≡ 0
  count-none p h [] = refl
  count-none p h (x ∷ xs) =
      let rest = count-none p h xs in
      count-cons p x xs ∙ (rw (h x) (omega arith))

  count-all : (p : A → Bool) (xs : List A) → All (λ x. p x ≡ true) xs → count_by p xs ≡ length xs
  count-all p [] h = refl
  count-all p (x ∷ xs) h =
      let own : p x ≡ true = All-head (λ y. p y ≡ true) x xs h in
      let rest = count-all p xs (All-tail (λ y. p y ≡ true) x xs h) in
      count-cons p x xs ∙ (rw own (omega arith))

  count-below : (f : A → ℕ) (k : ℕ) (xs : List A) → count_by (λ x. nat_lt (f x) (k + 1)) xs ≡ count_by (λ x. nat_lt (f x) k) xs + count_by (λ x. f x == k) xs
  count-below f k [] = refl
  count-below f k (x ∷ xs) =
      let more = count-cons (λ y. nat_lt (f y) (k + 1)) x xs in
      let less = count-cons (λ y. nat_lt (f y) k) x xs in
      let same = count-cons (λ y. f y == k) x xs in
      let own = below-one (f x) k in
      let rest = count-below f k xs in
      omega arith

-- where the first stands that shares its row with a thing
place : (view : View) (all : List ViewedThing) → ViewedThing → ℕ
place view all x = position_or_len (λ other. share_row view (are_many all) x other) all

first-place : (view : View) (all : List ViewedThing) (x : ViewedThing) → first_of view all x ≡ place view all x
unfolding place
first-place view all x = place-or (place view all x) (length all) _ refl (place-within (λ other. share_row view (are_many all) x other) all)

first-same : (view : View) (all : List ViewedThing) (x y : ViewedThing) → share_row view (are_many all) x y ≡ true → first_of view all x ≡ first_of view all y
unfolding place
first-same view all x y h =
    first-place view all x
    ∙ place-agrees (λ other. share_row view (are_many all) x other) (λ other. share_row view (are_many all) y other)
    (λ z. same-sharers view (are_many all) x y z h) all
    ∙ sym (first-place view all y)

-- a thing shares its row with the first of it
first-shares : (view : View) (all : List ViewedThing) (y d : ViewedThing) (k : ℕ) → k < length all → first_of view all y ≡ k → share_row view (are_many all) y (get_or all k d) ≡ true
unfolding place
first-shares view all y d k within e =
    let at : place view all y ≡ k = sym (first-place view all y) ∙ e in
    let low : place view all y < length all = omega arith in
    ap (λ n. share_row view (are_many all) y (get_or all n d)) (sym at)
    ∙ passes_at_first (λ other. share_row view (are_many all) y other) all d low

-- the things whose row begins at an index are those that share it with the thing there, if it is the first of its row
begins-by : (view : View) (all : List ViewedThing) (x : ViewedThing) (k : ℕ) → k < length all → x ≡ get_or all k x → (b : Bool) → (first_of view all x == k) ≡ b
    → count_by (λ y. first_of view all y == k) all ≡ cond b (count_by (λ y. share_row view (are_many all) x y) all) 0
begins-by view all x k within is true e =
    let own : first_of view all x ≡ k = eqb-true (first_of view all x) k e in
    count-agrees (λ y. first_of view all y == k) (λ y. share_row view (are_many all) x y)
    (λ y. same-test (first_of view all y == k) (share_row view (are_many all) x y)
    (λ h. shares-back view (are_many all) y x (ap (share_row view (are_many all) y) is ∙ first-shares view all y x k within (eqb-true (first_of view all y) k h)))
    (λ h. eq-eqb (first_of view all y) k (sym (first-same view all x y h) ∙ own)))
    all
begins-by view all x k within is false e =
    count-none (λ y. first_of view all y == k)
    (λ y. same-test (first_of view all y == k) false
    (λ h. let shared : share_row view (are_many all) y x ≡ true = ap (share_row view (are_many all) y) is ∙ first-shares view all y x k within (eqb-true (first_of view all y) k h) in
    sym e ∙ eq-eqb (first_of view all x) k (sym (first-same view all y x shared) ∙ eqb-true (first_of view all y) k h))
    (λ h. cc))
    all

-- the things of a run that pass are at least as many as those of them that are shown
shown-fewer : (p : ViewedThing → Bool) (weigh : ViewedThing → ℕ) (least room : ℕ) (xs : List ViewedThing) → count_by p (heaviest weigh least room xs) ≤ count_by p xs
shown-fewer p weigh least room [] = omega arith
shown-fewer p weigh least room (x ∷ xs) =
    by (has_room least room (weigh x)) (shown-fewer p weigh least (room_after least room (weigh x)) xs) (count-cons p x xs)
  where
    later : List ViewedThing
    later = heaviest weigh least (room_after least room (weigh x)) xs

    by : (b : Bool) → count_by p later ≤ count_by p xs → count_by p (x ∷ xs) ≡ cond (p x) 1 0 + count_by p xs
        → count_by p (cond b (x ∷ []) [] ++ later) ≤ count_by p (x ∷ xs)
    by true h e = let more = count-cons p x later in omega arith
    by false h e = omega arith

fewer-or : (p : ViewedThing → Bool) (weigh : ViewedThing → ℕ) (things shown : List ViewedThing) (b : Bool) → nat_le (length things) 300 ≡ b
    → AreChosen weigh things shown → count_by p shown ≤ count_by p things
fewer-or p weigh things shown true e own = let same = ap (count_by p) (own.few (leb-true (length things) 300 e)) in omega arith
fewer-or p weigh things shown false e own =
    let many = own.many (grind (arith, nat_tests)) in
    let same = ap (count_by p) many.are in
    let fewer = shown-fewer p weigh many.least (300 - count_from weigh (many.least + 1) things) things in
    omega arith

-- a thing among others passes a test that they count
counts-itself : (p : ViewedThing → Bool) (xs : List ViewedThing) (x : ViewedThing) (k : ℕ) → k < length xs → x ≡ get_or xs k x → p x ≡ true → 1 ≤ count_by p xs
counts-itself p [] x k h is e = absurd (omega arith)
counts-itself p (y ∷ ys) x zero h is e =
    let more = count-cons p y ys in
    let own : p y ≡ true = sym (ap p is) ∙ e in
    rw (more, own) (omega arith)
counts-itself p (y ∷ ys) x (suc k) h is e =
    let more = count-cons p y ys in
    let rest = counts-itself p ys x k (omega arith) is e in
    omega arith

-- what a lane says that is drawn in its row
drawn-first : (c : Bool) (count drawn failed pending : ℕ) → (count == 1) ≡ c → drawn ≤ count → 1 ≤ drawn
    → drawn_in (cond c Alone (First count drawn failed pending)) ≡ drawn
drawn-first true count drawn failed pending e low some = let one = eqb-true count 1 e in let same : 1 ≡ drawn = omega arith in same
drawn-first false count drawn failed pending e low some = refl

drawn-by : (b : Bool) (part : RowPart) (drawn : ℕ) → drawn_in part ≡ drawn → drawn_in (cond b part Later) ≡ cond b drawn 0
drawn-by true part drawn h = h
drawn-by false part drawn h = refl

drawn-part : (view : View) (all : List ViewedThing) (index first : ℕ) (x : ViewedThing)
    → count_by (λ y. share_row view (are_many all) x y) all ≤ count_by (λ y. share_row view (are_many all) x y) view.things
    → 1 ≤ count_by (λ y. share_row view (are_many all) x y) all
    → drawn_in (part_of view all index first x) ≡ cond (first == index) (count_by (λ y. share_row view (are_many all) x y) all) 0
drawn-part view all index first x fewer some =
    let count = count_by (λ y. share_row view (are_many all) x y) view.things in
    let drawn = count_by (λ y. share_row view (are_many all) x y) all in
    drawn-by (first == index) _ drawn (drawn-first (count == 1) count drawn _ _ refl fewer some)

lane-drawn : (view : View) (times : List ℕ) (all : List ViewedThing) (firsts : List ℕ) (index : ℕ) (x : ViewedThing)
    → drawn_in (lane_of view times (placed_at view all firsts index x)).part ≡ drawn_in (part_of view all index (get_or firsts index 0) x)
unfolding lane_of
lane-drawn view times all firsts index x = refl

first-at : (view : View) (all : List ViewedThing) (index : ℕ) (x : ViewedThing) → index < length all → x ≡ get_or all index x → get_or (firsts_of view all) index 0 ≡ first_of view all x
first-at view all index x h is = get_or-map (first_of view all) all index x 0 h ∙ ap (first_of view all) (sym is)

plus-none : (a b : ℕ) → a ≡ b → a + 0 ≡ b
plus-none a b e = omega arith

step-sum : (before after own later all n : ℕ) → after ≡ before + own → all ≡ own + later → after + later ≡ n → before + all ≡ n
step-sum before after own later all n e f g = omega arith

whole-sum : (none sum n all : ℕ) → none + sum ≡ n → none ≡ 0 → n ≡ all → sum ≡ all
whole-sum none sum n all e f g = omega arith

-- the lanes from an index on, with those whose row begins before it
drawn-from : (view : View) (times : List ℕ) (all : List ViewedThing)
    → ((p : ViewedThing → Bool) → count_by p all ≤ count_by p view.things)
    → (index : ℕ) (xs : List ViewedThing) → drop index all ≡ xs → index ≤ length all
    → count_by (λ y. nat_lt (first_of view all y) index) all + sum_by (λ lane. drawn_in lane.part) (map (lane_of view times) (placed_from view all (firsts_of view all) index xs))
    ≡ count_by (λ y. nat_lt (first_of view all y) (length all)) all
drawn-from view times all fewer index [] e low =
    let left = length-drop index all in
    let none = ap length e in
    let end : index ≡ length all = omega arith in
    plus-none _ _ (ap (λ n. count_by (λ y. nat_lt (first_of view all y) n) all) end)
drawn-from view times all fewer index (x ∷ xs) e low =
    let left = length-drop index all in
    let some = ap length e in
    let within : index < length all = omega arith in
    let is : x ≡ get_or all index x = sym (at-drop index all xs x x e) in
    let shares : ViewedThing → Bool = λ y. share_row view (are_many all) x y in
    let first = first-at view all index x within is in
    let lane = lane_of view times (placed_at view all (firsts_of view all) index x) in
    let later = map (lane_of view times) (placed_from view all (firsts_of view all) (index + 1) xs) in
    let own : drawn_in lane.part ≡ count_by (λ y. first_of view all y == index) all
    = lane-drawn view times all (firsts_of view all) index x
    ∙ drawn-part view all index (get_or (firsts_of view all) index 0) x (fewer shares) (counts-itself shares all x index within is (shares-itself view (are_many all) x))
    ∙ ap (λ n. cond (n == index) (count_by shares all) 0) first
    ∙ sym (begins-by view all x index within is _ refl) in
    let count : ℕ → ℕ = λ n. count_by (λ y. nat_lt (first_of view all y) n) all in
    let sum = sum_by-cons (λ one. drawn_in one.part) lane later ∙ ap (λ m. m + sum_by (λ one. drawn_in one.part) later) own in
    let rest = drawn-from view times all fewer (index + 1) xs (rest-drop index all xs x e) (omega arith) in
    step-sum (count index) (count (index + 1)) (count_by (λ y. first_of view all y == index) all) (sum_by (λ one. drawn_in one.part) later) _ _
    (count-below (first_of view all) index all) sum rest

-- something that passes stands within the list
place-of-one : (p : ViewedThing → Bool) (xs : List ViewedThing) (x : ViewedThing) (k : ℕ) → k < length xs → x ≡ get_or xs k x → p x ≡ true → position_or_len p xs < length xs
place-of-one p [] x k h is e = absurd (omega arith)
place-of-one p (y ∷ ys) x zero h is e =
    let at : position_or_len p (y ∷ ys) ≡ 0 = ap (λ b. cond (not b) (1 + position_or_len p ys) 0) (sym (ap p is) ∙ e) in
    omega arith
place-of-one p (y ∷ ys) x (suc k) h is e = by (not (p y)) (place-of-one p ys x k (omega arith) is e)
  where
    by : (b : Bool) → position_or_len p ys < length ys → cond b (1 + position_or_len p ys) 0 < length (y ∷ ys)
    by true h = omega arith
    by false h = omega arith

-- each row begins at one of the things
begins-at : (view : View) (all : List ViewedThing) (x : ViewedThing) (k : ℕ) → k < length all → x ≡ get_or all k x → nat_lt (first_of view all x) (length all) ≡ true
unfolding place
begins-at view all x k h is =
    let low : place view all x < length all
    = place-of-one (λ other. share_row view (are_many all) x other) all x k h is (shares-itself view (are_many all) x) in
    lt-ltb (first_of view all x) (length all) (rw (first-place view all x) low)

begins-within : (view : View) (all : List ViewedThing) → All (λ y. nat_lt (first_of view all y) (length all) ≡ true) all
begins-within view all = λ k d h. begins-at view all (get_or all k d) k h (get_or_default all k d (get_or all k d) h)

none-below : (view : View) (all : List ViewedThing) → count_by (λ y. nat_lt (first_of view all y) 0) all ≡ 0
none-below view all = count-none (λ y. nat_lt (first_of view all y) 0) (λ y. le-ltb (first_of view all y) 0 (omega arith)) all

-- all lanes are drawn in their rows
drawn-all : (view : View) (times : List ℕ) (all : List ViewedThing) → ((p : ViewedThing → Bool) → count_by p all ≤ count_by p view.things)
    → sum_by (λ lane. drawn_in lane.part) (map (lane_of view times) (placed_things view all)) ≡ length all
drawn-all view times all fewer =
    whole-sum _ _ _ (length all) (drawn-from view times all fewer 0 all refl (omega arith)) (none-below view all)
    (count-all (λ y. nat_lt (first_of view all y) (length all)) all (begins-within view all))

pub rows_add_up : RowsAddUp
unfolding timed_page
rows_add_up view said page own =
    let times = times_of view.events in
    let fewer : (p : ViewedThing → Bool) → count_by p own.shown ≤ count_by p view.things
    = λ p. fewer-or p (weight view times (index_at said.place)) view.things own.shown _ refl own.chosen in
    ap (λ one. sum_by (λ lane. drawn_in lane.part) one.lanes) own.is
    ∙ drawn-all view times own.shown fewer
    ∙ sym (lanes-length view times own.shown)
    ∙ sym (ap (λ one. length one.lanes) own.is)

-- ---- what a row tells of its things

-- nothing failed and is open
apart-one : (shares : Bool) (outcome : ThingOutcome) → cond (shares && is_failed outcome) 1 0 + cond (shares && is_open outcome) 1 0 ≤ cond shares 1 0
apart-one false outcome = omega arith
apart-one true Open = omega arith
apart-one true Done = omega arith
apart-one true Failed = omega arith
apart-one true Canceled = omega arith

apart-counts : (view : View) (shares : ViewedThing → Bool) (xs : List ViewedThing)
    → count_by (λ x. shares x && is_failed (outcome_of view x)) xs + count_by (λ x. shares x && is_open (outcome_of view x)) xs ≤ count_by shares xs
apart-counts view shares [] = omega arith
apart-counts view shares (x ∷ xs) =
    let failed = count-cons (λ y. shares y && is_failed (outcome_of view y)) x xs in
    let pending = count-cons (λ y. shares y && is_open (outcome_of view y)) x xs in
    let all = count-cons shares x xs in
    let own = apart-one (shares x) (outcome_of view x) in
    let rest = apart-counts view shares xs in
    omega arith

first-tells : (b : Bool) (count drawn failed pending : ℕ) → drawn ≤ count → failed + pending ≤ count → TellsOfItsThings (cond b Alone (First count drawn failed pending))
first-tells true count drawn failed pending few apart = tt
first-tells false count drawn failed pending few apart = (few, apart)

part-tells : (view : View) (all : List ViewedThing) (index first : ℕ) (x : ViewedThing) → ((p : ViewedThing → Bool) → count_by p all ≤ count_by p view.things)
    → (b : Bool) → (first == index) ≡ b → TellsOfItsThings (part_of view all index first x)
part-tells view all index first x fewer true is =
    let shares : ViewedThing → Bool = λ y. share_row view (are_many all) x y in
    let count = count_by shares view.things in
    rw is (first-tells (count == 1) count (count_by shares all) _ _ (fewer shares) (apart-counts view shares view.things))
part-tells view all index first x fewer false is = rw is tt

lanes-tell : (view : View) (times : List ℕ) (all : List ViewedThing) (firsts : List ℕ) → ((p : ViewedThing → Bool) → count_by p all ≤ count_by p view.things)
    → (index : ℕ) (xs : List ViewedThing) → All (λ lane. TellsOfItsThings lane.part) (map (lane_of view times) (placed_from view all firsts index xs))
unfolding lane_of
lanes-tell view times all firsts fewer index [] = λ k d h. absurd (omega (arith, h))
lanes-tell view times all firsts fewer index (x ∷ xs) =
    All-cons (λ lane. TellsOfItsThings lane.part) (lane_of view times (placed_at view all firsts index x)) (map (lane_of view times) (placed_from view all firsts (index + 1) xs))
    (part-tells view all index (get_or firsts index 0) x fewer (get_or firsts index 0 == index) refl)
    (lanes-tell view times all firsts fewer (index + 1) xs)

pub rows_tell_of_their_things : RowsTellOfTheirThings
unfolding timed_page
rows_tell_of_their_things view said page own =
    let times = times_of view.events in
    let fewer : (p : ViewedThing → Bool) → count_by p own.shown ≤ count_by p view.things =
    λ p. fewer-or p (weight view times (index_at said.place)) view.things own.shown _ refl own.chosen in
    let lanes : page.lanes ≡ lanes_of view times (placed_things view own.shown) = ap (λ one. one.lanes) own.is in
    subst (All (λ lane. TellsOfItsThings lane.part)) (sym lanes) (lanes-tell view times own.shown (firsts_of view own.shown) fewer 0 own.shown)
