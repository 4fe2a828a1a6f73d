-- A watch that keeps to its budget shows the meaning of the promise.
use Rattle.std.proofs.Common.{◌≡◌, ℕ, ◌+◌, ◌≤◌, Bool, true, false, cond, ◌||◌, List, [], ◌∷◌, ◌++◌, Option, Some, None, refl, subst, ◌∙◌, arith}
use Rattle.wh_rows.specs.Tables.{Definition}
use Rattle.wh_rows.specs.Rows.{initial}
use Rattle.wh_rows.specs.Courses.{Happening, Entry, is_at, times, happens, course}
use Rattle.wh_rows.specs.Watches.{Turn, Standing, moved, new_standing, watched, Keeps}
use Rattle.wh_rows.specs.Promises.{Promise, at_most, only_after, never_after, between, keeps_watch, Promises, watch_of, KeptIn}
use Rattle.wh_rows.proofs.Turns.{grows}

-- a turn, if there is one
abbrev pub taken : Bool → Turn → Option Turn → Option Turn
taken t turn later = elim t [ true ↦ Some turn | false ↦ later ]

-- a watch that spends anything exceeds a budget of 0
spends : (turns : List Turn) (at spent : ℕ) (entries : List Entry)
    → (watched turns (record { at = at; spent = spent + 1 }) entries).spent ≤ spent → ⊥
spends turns at spent entries few =
    let start : Standing = record { at = at; spent = spent + 1 } in
    let more : spent + 1 ≤ (watched turns start entries).spent = grows turns start entries in
    omega (arith, more, few)

module _ (what : Happening) where
  abbrev pub counter : Turn
  counter = record { from = 1; what = what; to = 1; cost = 1 }

  -- a watch that counts
  pub counted : (spent : ℕ) (entries : List Entry)
      → (watched (counter ∷ []) (record { at = 1; spent = spent }) entries).spent ≡ spent + times what entries
  counted spent [] = omega arith
  counted spent (entry ∷ rest) = by (is_at what entry) (λ spent. counted spent rest)
    where
      by : (t : Bool)
          → ((spent : ℕ) → (watched (counter ∷ []) (record { at = 1; spent = spent }) rest).spent ≡ spent + times what rest)
          → (watched (counter ∷ []) (moved (taken t counter None) (record { at = 1; spent = spent })) rest).spent
          ≡ spent + (cond t 1 0 + times what rest)
      by true later = let sum : (spent + 1) + times what rest ≡ spent + (1 + times what rest) = omega arith in later (spent + 1) ∙ sum
      by false later = let sum : spent + times what rest ≡ spent + (0 + times what rest) = omega arith in later spent ∙ sum

module _ (first what : Happening) where
  abbrev pub early : Turn
  early = record { from = 1; what = what; to = 1; cost = 1 }

  abbrev pub arms : Turn
  arms = record { from = 1; what = first; to = 2; cost = 0 }

  abbrev pub late : Turn
  late = record { from = 2; what = what; to = 2; cost = 1 }

  -- the second does not happen before the first has
  first_before : (spent : ℕ) (earlier : List Entry) (entry : Entry) (later : List Entry)
      → (watched (early ∷ arms ∷ []) (record { at = 1; spent = spent }) (earlier ++ entry ∷ later)).spent ≤ spent
      → is_at what entry ≡ true → happens first earlier ≡ true
  first_before spent [] entry later few is =
      absurd (spends (early ∷ arms ∷ []) 1 spent later
      (subst (λ t. (watched (early ∷ arms ∷ []) (moved (taken t early (taken (is_at first entry) arms None)) (record { at = 1; spent = spent })) later).spent ≤ spent)
      is few))
  first_before spent (next ∷ rest) entry later few is =
      by (is_at what next) (is_at first next) few (λ few. first_before spent rest entry later few is)
    where
      by : (t u : Bool)
          → (watched (early ∷ arms ∷ []) (moved (taken t early (taken u arms None)) (record { at = 1; spent = spent })) (rest ++ entry ∷ later)).spent ≤ spent
          → ((watched (early ∷ arms ∷ []) (record { at = 1; spent = spent }) (rest ++ entry ∷ later)).spent ≤ spent → happens first rest ≡ true)
          → (u || happens first rest) ≡ true
      by true u few next_one = absurd (spends (early ∷ arms ∷ []) 1 spent (rest ++ entry ∷ later) few)
      by false true few next_one = refl
      by false false few next_one = next_one few

  -- once the watch is armed the second does not happen
  none_late : (spent : ℕ) (earlier : List Entry) (entry : Entry) (later : List Entry)
      → (watched (arms ∷ late ∷ []) (record { at = 2; spent = spent }) (earlier ++ entry ∷ later)).spent ≤ spent
      → is_at what entry ≡ false
  none_late spent [] entry later few = by (is_at what entry) few
    where
      by : (t : Bool)
          → (watched (arms ∷ late ∷ []) (moved (taken t late None) (record { at = 2; spent = spent })) later).spent ≤ spent → t ≡ false
      by true few = absurd (spends (arms ∷ late ∷ []) 2 spent later few)
      by false few = refl
  none_late spent (next ∷ rest) entry later few = by (is_at what next) few (λ few. none_late spent rest entry later few)
    where
      by : (t : Bool)
          → (watched (arms ∷ late ∷ []) (moved (taken t late None) (record { at = 2; spent = spent })) (rest ++ entry ∷ later)).spent ≤ spent
          → ((watched (arms ∷ late ∷ []) (record { at = 2; spent = spent }) (rest ++ entry ∷ later)).spent ≤ spent → is_at what entry ≡ false)
          → is_at what entry ≡ false
      by true few next_one = absurd (spends (arms ∷ late ∷ []) 2 spent (rest ++ entry ∷ later) few)
      by false few next_one = next_one few

  -- so not after the first
  none_after : (spent : ℕ) (earlier : List Entry) (entry : Entry) (later : List Entry)
      → (watched (arms ∷ late ∷ []) (record { at = 1; spent = spent }) (earlier ++ entry ∷ later)).spent ≤ spent
      → happens first earlier ≡ true → is_at what entry ≡ false
  none_after spent [] entry later few first_is = cc
  none_after spent (next ∷ rest) entry later few first_is =
      by (is_at first next) few first_is (λ few. none_late spent rest entry later few)
      (λ few first_is. none_after spent rest entry later few first_is)
    where
      plus : (P : ℕ → Type 0) → P (spent + 0) → P spent
      plus P holds = let none : spent + 0 ≡ spent = omega arith in subst P none holds

      by : (t : Bool)
          → (watched (arms ∷ late ∷ []) (moved (taken t arms None) (record { at = 1; spent = spent })) (rest ++ entry ∷ later)).spent ≤ spent
          → (t || happens first rest) ≡ true
          → ((watched (arms ∷ late ∷ []) (record { at = 2; spent = spent }) (rest ++ entry ∷ later)).spent ≤ spent → is_at what entry ≡ false)
          → ((watched (arms ∷ late ∷ []) (record { at = 1; spent = spent }) (rest ++ entry ∷ later)).spent ≤ spent → happens first rest ≡ true → is_at what entry ≡ false)
          → is_at what entry ≡ false
      by true few first_is armed next_one =
          armed (plus (λ n. (watched (arms ∷ late ∷ []) (record { at = 2; spent = n }) (rest ++ entry ∷ later)).spent ≤ spent) few)
      by false few first_is armed next_one = next_one few first_is

module _ (first last what : Happening) where
  abbrev pub opens : Turn
  opens = record { from = 1; what = first; to = 2; cost = 0 }

  abbrev pub misses : Turn
  misses = record { from = 2; what = last; to = 2; cost = 1 }

  abbrev pub answers : Turn
  answers = record { from = 2; what = what; to = 3; cost = 0 }

  abbrev pub pair : List Turn
  pair = opens ∷ misses ∷ answers ∷ []

  -- while it waits, the third happens before the second
  answered : (spent : ℕ) (middle : List Entry) (other : Entry) (later : List Entry)
      → (watched pair (record { at = 2; spent = spent }) (middle ++ other ∷ later)).spent ≤ spent
      → is_at last other ≡ true → happens what middle ≡ true
  answered spent [] other later few is =
      absurd (spends pair 2 spent later
      (subst (λ t. (watched pair (moved (taken t misses (taken (is_at what other) answers None)) (record { at = 2; spent = spent })) later).spent ≤ spent)
      is few))
  answered spent (next ∷ rest) other later few is =
      by (is_at last next) (is_at what next) few (λ few. answered spent rest other later few is)
    where
      by : (l w : Bool)
          → (watched pair (moved (taken l misses (taken w answers None)) (record { at = 2; spent = spent })) (rest ++ other ∷ later)).spent ≤ spent
          → ((watched pair (record { at = 2; spent = spent }) (rest ++ other ∷ later)).spent ≤ spent → happens what rest ≡ true)
          → (w || happens what rest) ≡ true
      by true w few next_one = absurd (spends pair 2 spent (rest ++ other ∷ later) few)
      by false true few next_one = refl
      by false false few next_one = next_one few

  -- after the first time of the first, the third happens before each of the second
  all_answered : (spent : ℕ) (earlier : List Entry) (one : Entry) (middle : List Entry) (other : Entry) (later : List Entry)
      → (watched pair (record { at = 1; spent = spent }) (earlier ++ one ∷ (middle ++ other ∷ later))).spent ≤ spent
      → happens first earlier ≡ false → is_at first one ≡ true → is_at last other ≡ true → happens what middle ≡ true
  all_answered spent [] one middle other later few none is ends = by (is_at first one) is few
    where
      by : (f : Bool) → f ≡ true
          → (watched pair (moved (taken f opens None) (record { at = 1; spent = spent })) (middle ++ other ∷ later)).spent ≤ spent
          → happens what middle ≡ true
      by true is few =
          let sum : spent + 0 ≡ spent = omega arith in
          answered spent middle other later
          (subst (λ n. (watched pair (record { at = 2; spent = n }) (middle ++ other ∷ later)).spent ≤ spent) sum few) ends
      by false is few = cc
  all_answered spent (next ∷ rest) one middle other later few none is ends =
      by (is_at first next) none few (λ none few. all_answered spent rest one middle other later few none is ends)
    where
      behind : List Entry
      behind = rest ++ one ∷ (middle ++ other ∷ later)

      by : (f : Bool) → (f || happens first rest) ≡ false
          → (watched pair (moved (taken f opens None) (record { at = 1; spent = spent })) behind).spent ≤ spent
          → (happens first rest ≡ false → (watched pair (record { at = 1; spent = spent }) behind).spent ≤ spent → happens what middle ≡ true)
          → happens what middle ≡ true
      by true none few next_one = cc
      by false none few next_one = next_one none few

-- the promise is kept if its watch keeps to its budget
pub means_in : (promise : Promise) (entries : List Entry)
    → (watched (watch_of promise).turns new_standing entries).spent ≤ (watch_of promise).budget → KeptIn promise entries
means_in (at_most most what) entries few =
    let sum : (watched (watch_of (at_most most what)).turns (record { at = 1; spent = 0 }) entries).spent ≡ 0 + times what entries =
    counted what 0 entries in
    let most_times : times what entries ≤ most = omega (arith, sum, few) in
    most_times
means_in (only_after first what) entries few = λ earlier entry later split is.
    first_before first what 0 earlier entry later
    (subst (λ entries. (watched (watch_of (only_after first what)).turns (record { at = 1; spent = 0 }) entries).spent ≤ 0) split few)
    is
means_in (never_after first what) entries few = λ earlier entry later split is.
    none_after first what 0 earlier entry later
    (subst (λ entries. (watched (watch_of (never_after first what)).turns (record { at = 1; spent = 0 }) entries).spent ≤ 0) split few)
    is
means_in (between first last what) entries few = λ earlier one middle other later split none is ends.
    all_answered first last what 0 earlier one middle other later
    (subst (λ entries. (watched (watch_of (between first last what)).turns (record { at = 1; spent = 0 }) entries).spent ≤ 0) split few)
    none is ends
means_in (keeps_watch watch) entries few = few

-- a table keeps the promise if its watch keeps to its budget
pub means : (table : Definition) (promise : Promise) → Keeps table (watch_of promise) → Promises table promise
means table promise keeps = λ list start. means_in promise (course table (initial table) list) (keeps list start)
