-- A page shows few things, and one of the event of the fault.
use Rattle.std.proofs.Common.{◌≡◌, ◌∙◌, ◌≤◌, ◌<◌, ℕ, ◌+◌, ◌-◌, Bool, true, false, cond, Option, Some, None, List, [], ◌∷◌, ◌++◌, length, map, refl, sym, ap, arith}
use Rattle.std.specs.Prelude.{◌==◌, ◌||◌, ◌&&◌, nat_le, nat_lt, min, count_by}
use Rattle.std.specs.List.{list_any}
use Rattle.std.proofs.lemmas.Bool.{ltb-true, leb-true}
use Rattle.std.proofs.lemmas.Bool.Decides.{nat_tests}
use Rattle.std.proofs.lemmas.List.{length-map}
use Rattle.std.proofs.lemmas.List.Sums.{sum_by-cons}
use Rattle.wh_html.specs.declared.page.ThingOutcome.{ThingOutcome}
use Rattle.wh_html.specs.declared.page.ThingOutcome.TheVariants.{Open, Done, Failed, Canceled}
use Rattle.wh_view.specs.declared.view.View.{View}
use Rattle.wh_view.specs.declared.view.ViewedThing.{ViewedThing}
use Rattle.wh_run_page.specs.Choices.{is_hit, outcome_weight, time_until, weight, count_from, has_room, room_after, heaviest, AreHeaviest}
use Rattle.wh_run_page.specs.Lanes.{outcome_at, lane_of, lanes_of}
use Rattle.wh_run_page.specs.Laws.{ThingsAreAsManyAsFit, FaultIsShown}
use Rattle.wh_run_page.specs.Moments.{event_at, times_of, index_at}
use Rattle.wh_run_page.specs.Pages.{timed_page}
use Rattle.wh_run_page.specs.Rows.{firsts_of, placed_from, placed_things}

-- a list with an item in front, if it is to have it
front-length : {A : Type 0} (b : Bool) (x : A) (xs : List A) → length (cond b (x ∷ []) [] ++ xs) ≡ cond b 1 0 + length xs
front-length true x xs = omega arith
front-length false x xs = omega arith

front-any : {A : Type 0} (p : A → Bool) (b : Bool) (x : A) (xs : List A) → b ≡ true → p x ≡ true → list_any p (cond b (x ∷ []) [] ++ xs) ≡ true
front-any p true x xs e h = ap (λ c. c || list_any p xs) h
front-any p false x xs e h = cc

after-any : {A : Type 0} (p : A → Bool) (b : Bool) (x : A) (xs : List A) → p x ≡ false → list_any p xs ≡ true → list_any p (cond b (x ∷ []) [] ++ xs) ≡ true
after-any p true x xs e h = ap (λ c. c || list_any p xs) e ∙ h
after-any p false x xs e h = h

module _ (weigh : ViewedThing → ℕ) where
  count-cons : (least : ℕ) (x : ViewedThing) (xs : List ViewedThing) → count_from weigh least (x ∷ xs) ≡ cond (nat_le least (weigh x)) 1 0 + count_from weigh least xs
  count-cons least x xs = sum_by-cons (λ thing. cond (nat_le least (weigh thing)) 1 0) x xs

  one-above : (least own : ℕ) → cond (nat_le (least + 1) own) 1 0 ≤ cond (nat_le least own) 1 0
  one-above least own = grind (arith, nat_tests)

  -- what weighs more than the least weighs as much
  count-above : (least : ℕ) (xs : List ViewedThing) → count_from weigh (least + 1) xs ≤ count_from weigh least xs
  count-above least [] = omega arith
  count-above least (x ∷ xs) =
      let rest = count-above least xs in
      let above = count-cons (least + 1) x xs in
      let all = count-cons least x xs in
      let own = one-above least (weigh x) in
      omega arith

  room-full : (least room own c n : ℕ) → c ≤ n → cond (nat_le (least + 1) own) 1 0 + c + room ≤ cond (nat_le least own) 1 0 + n → c + room_after least room own ≤ n
  room-full least room own c n low h = grind (arith, nat_tests)

  one-full : (least room own c : ℕ) → cond (has_room least room own) 1 0 + (c + room_after least room own) ≡ cond (nat_le (least + 1) own) 1 0 + c + room
  one-full least room own c = grind (arith, nat_tests)

  -- where enough weigh as much as the least, the room for them is filled
  pub heaviest-full : (least room : ℕ) (xs : List ViewedThing) → count_from weigh (least + 1) xs + room ≤ count_from weigh least xs
      → length (heaviest weigh least room xs) ≡ count_from weigh (least + 1) xs + room
  heaviest-full least room [] h = omega arith
  heaviest-full least room (x ∷ xs) h =
      let above = count-cons (least + 1) x xs in
      let all = count-cons least x xs in
      let c = count_from weigh (least + 1) xs in
      let n = count_from weigh least xs in
      let both : cond (nat_le (least + 1) (weigh x)) 1 0 + c + room ≤ cond (nat_le least (weigh x)) 1 0 + n = omega arith in
      let enough = room-full least room (weigh x) c n (count-above least xs) both in
      let rest = heaviest-full least (room_after least room (weigh x)) xs enough in
      let front = front-length (has_room least room (weigh x)) x (heaviest weigh least (room_after least room (weigh x)) xs) in
      let own = one-full least room (weigh x) c in
      omega arith

  -- no thing weighs more than all of them do
  none-heavier : (most least : ℕ) (xs : List ViewedThing) → ((x : ViewedThing) → weigh x ≤ most) → most < least → count_from weigh least xs ≡ 0
  none-heavier most least [] h k = refl
  none-heavier most least (x ∷ xs) h k =
      let rest = none-heavier most least xs h k in
      let count = count-cons least x xs in
      let own = h x in
      let lighter : nat_le least (weigh x) ≡ false = grind (arith, nat_tests) in
      count ∙ (rw lighter (omega arith))

  room-for-most : (most least room : ℕ) → least ≤ most → (least ≡ most → 0 < room) → has_room least room most ≡ true
  room-for-most most least room h k = grind (arith, nat_tests)

  room-left : (most least room own : ℕ) → own < most → (least ≡ most → 0 < room) → least ≡ most → 0 < room_after least room own
  room-left most least room own h k e = let some = k e in grind (arith, nat_tests)

  any-by : (p : ViewedThing → Bool) (least room : ℕ) (x : ViewedThing) (later : List ViewedThing) (b : Bool) → p x ≡ b
      → (p x ≡ true → has_room least room (weigh x) ≡ true) → (p x ≡ false → list_any p later ≡ true)
      → list_any p (cond (has_room least room (weigh x)) (x ∷ []) [] ++ later) ≡ true
  any-by p least room x later true e shows rest = front-any p (has_room least room (weigh x)) x later (shows e) e
  any-by p least room x later false e shows rest = after-any p (has_room least room (weigh x)) x later e (rest e)

  -- where those that pass are the heaviest, one of them is shown
  pub any-heaviest : (p : ViewedThing → Bool) (most : ℕ)
      → ((x : ViewedThing) → p x ≡ true → weigh x ≡ most) → ((x : ViewedThing) → p x ≡ false → weigh x < most)
      → (least room : ℕ) → least ≤ most → (least ≡ most → 0 < room) → (xs : List ViewedThing) → list_any p xs ≡ true
      → list_any p (heaviest weigh least room xs) ≡ true
  any-heaviest p most hits others least room low some [] h = cc
  any-heaviest p most hits others least room low some (x ∷ xs) h =
      any-by p least room x (heaviest weigh least (room_after least room (weigh x)) xs) (p x) refl
      (λ e. ap (has_room least room) (hits x e) ∙ room-for-most most least room low some)
      (λ e. any-heaviest p most hits others least (room_after least room (weigh x)) low (room-left most least room (weigh x) (others x e) some) xs (sym (ap (λ c. c || list_any p xs) e) ∙ h))

-- a thing of the event of the fault weighs the most
weight-hit : (view : View) (times : List ℕ) (fault : Option ℕ) (x : ViewedThing) → is_hit fault x ≡ true → weight view times fault x ≡ 4_611_686_018_427_387_904
weight-hit view times fault x e = rw e refl

weight-other : (view : View) (times : List ℕ) (fault : Option ℕ) (x : ViewedThing) → is_hit fault x ≡ false → weight view times fault x < 4_611_686_018_427_387_904
weight-other view times fault x e = rw e (by (outcome_at (event_at view.events x.ended)) (time_until times x.opened x.ended))
  where
    by : (outcome : ThingOutcome) (millis : ℕ) → outcome_weight outcome millis < 4_611_686_018_427_387_904
    by Open millis = omega arith
    by Done millis = omega arith
    by Failed millis = omega arith
    by Canceled millis = omega arith

weight-most : (view : View) (times : List ℕ) (fault : Option ℕ) (x : ViewedThing) → weight view times fault x ≤ 4_611_686_018_427_387_904
weight-most view times fault x = by (is_hit fault x) refl
  where
    by : (b : Bool) → is_hit fault x ≡ b → weight view times fault x ≤ 4_611_686_018_427_387_904
    by true e = let own = weight-hit view times fault x e in omega arith
    by false e = let own = weight-other view times fault x e in omega arith

-- nothing weighs more than the most
pub none-above : (view : View) (times : List ℕ) (fault : Option ℕ) (xs : List ViewedThing) → count_from (weight view times fault) 4_611_686_018_427_387_905 xs ≡ 0
none-above view times fault xs =
    none-heavier (weight view times fault) 4_611_686_018_427_387_904 4_611_686_018_427_387_905 xs (weight-most view times fault) (omega arith)

-- each thing weighs something
pub all-from : (weigh : ViewedThing → ℕ) (xs : List ViewedThing) → count_from weigh 0 xs ≡ length xs
all-from weigh [] = refl
all-from weigh (x ∷ xs) =
    let rest = all-from weigh xs in
    let count = count-cons weigh 0 x xs in
    let own : nat_le 0 (weigh x) ≡ true = grind (arith, nat_tests) in
    count ∙ rw own (omega arith)

-- of many things as many are shown as fit
shown-full : (weigh : ViewedThing → ℕ) (things shown : List ViewedThing) → AreHeaviest weigh things shown → length shown ≡ 300
shown-full weigh things shown h =
    let room = 300 - count_from weigh (h.least + 1) things in
    let fewer = h.is_least.fewer in
    let enough = h.is_least.enough in
    let fits : count_from weigh (h.least + 1) things + room ≤ count_from weigh h.least things = omega arith in
    let full = heaviest-full weigh h.least room things fits in
    let same = ap length h.are in
    omega arith

placed-length : (view : View) (all : List ViewedThing) (firsts : List ℕ) (index : ℕ) (xs : List ViewedThing) → length (placed_from view all firsts index xs) ≡ length xs
placed-length view all firsts index [] = refl
placed-length view all firsts index (x ∷ xs) = let rest = placed-length view all firsts (index + 1) xs in omega arith

few-or : (weigh : ViewedThing → ℕ) (things shown : List ViewedThing) (b : Bool) → nat_le (length things) 300 ≡ b → (length things ≤ 300 → shown ≡ things) → (300 < length things → AreHeaviest weigh things shown) → length shown ≡ min (length things) 300
few-or weigh things shown true e few many =
    let small = leb-true (length things) 300 e in let same = ap length (few small) in omega arith
few-or weigh things shown false e few many =
    let large : 300 < length things = grind (arith, nat_tests) in let full = shown-full weigh things shown (many large) in omega arith

-- a page has a lane for each thing that it shows
pub lanes-length : (view : View) (times : List ℕ) (shown : List ViewedThing) → length (lanes_of view times (placed_things view shown)) ≡ length shown
lanes-length view times shown =
    length-map (placed_things view shown) (lane_of view times) ∙ placed-length view shown (firsts_of view shown) 0 shown

pub things_are_as_many_as_fit : ThingsAreAsManyAsFit
unfolding timed_page
things_are_as_many_as_fit view said page own =
    let few = few-or _ view.things own.shown _ refl own.chosen.few own.chosen.many in
    let times = times_of view.events in
    let lanes : length page.lanes ≡ length (lanes_of view times (placed_things view own.shown)) = ap (λ one. length one.lanes) own.is in
    let each = lanes-length view times own.shown in
    omega arith

least-low : (view : View) (times : List ℕ) (fault : Option ℕ) (least : ℕ) (xs : List ViewedThing) (b : Bool) → nat_lt 4_611_686_018_427_387_904 least ≡ b → 300 ≤ count_from (weight view times fault) least xs → least ≤ 4_611_686_018_427_387_904
least-low view times fault least xs true e h =
    let high = ltb-true 4_611_686_018_427_387_904 least e in
    let none = none-heavier (weight view times fault) 4_611_686_018_427_387_904 least xs (weight-most view times fault) high in
    absurd (omega arith)
least-low view times fault least xs false e h = grind (arith, nat_tests)

hit-shown : (view : View) (times : List ℕ) (fault : Option ℕ) (things shown : List ViewedThing) → AreHeaviest (weight view times fault) things shown → list_any (is_hit fault) things ≡ true → list_any (is_hit fault) shown ≡ true
hit-shown view times fault things shown own h =
    let low = least-low view times fault own.least things _ refl own.is_least.enough in
    let fewer = own.is_least.fewer in
    ap (list_any (is_hit fault)) own.are
    ∙ any-heaviest (weight view times fault) (is_hit fault) 4_611_686_018_427_387_904 (weight-hit view times fault) (weight-other view times fault) own.least _ low (λ same. omega arith) things h

hit-or : (view : View) (times : List ℕ) (fault : Option ℕ) (things shown : List ViewedThing) (b : Bool) → nat_le (length things) 300 ≡ b → (length things ≤ 300 → shown ≡ things) → (300 < length things → AreHeaviest (weight view times fault) things shown) → list_any (is_hit fault) things ≡ true → list_any (is_hit fault) shown ≡ true
hit-or view times fault things shown true e few many h = ap (list_any (is_hit fault)) (few (leb-true (length things) 300 e)) ∙ h
hit-or view times fault things shown false e few many h = hit-shown view times fault things shown (many (grind (arith, nat_tests))) h

pub fault_is_shown : FaultIsShown
fault_is_shown view said page own h =
    hit-or view (times_of view.events) (index_at said.place) view.things own.shown _ refl own.chosen.few own.chosen.many h
