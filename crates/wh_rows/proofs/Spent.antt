-- The watch of a promise that is kept keeps to its budget.
use Rattle.std.proofs.Common.{◌≡◌, ℕ, ◌+◌, ◌≤◌, Bool, true, false, ◌||◌, List, [], ◌∷◌, ◌++◌, Option, Some, None, refl, ap, subst, ◌∙◌, arith}
use Rattle.std.proofs.Math.Nat.{le_refl}
use Rattle.wh_rows.specs.Courses.{Happening, Entry, is_at, times, happens}
use Rattle.wh_rows.specs.Watches.{Turn, Standing, new_standing, moved, watched}
use Rattle.wh_rows.specs.Promises.{Promise, at_most, only_after, never_after, between, keeps_watch, KeptIn, IsOnlyAfter, IsNeverAfter, IsBetween, watch_of}
use Rattle.wh_rows.proofs.Meant.{taken, counted, early, arms, late, opens, misses, answers, pair}

-- one more nothing
plus_none : (n : ℕ) → n + 0 ≡ n
plus_none n = omega arith

or_first : (t u : Bool) → t ≡ true → (t || u) ≡ true
or_first true u is = refl
or_first false u is = cc

or_second : (t u : Bool) → u ≡ true → (t || u) ≡ true
or_second true u is = refl
or_second false u is = is

or_neither : (t u : Bool) → t ≡ false → u ≡ false → (t || u) ≡ false
or_neither true u none other = cc
or_neither false u none other = other

or_other : (t u : Bool) → t ≡ false → (t || u) ≡ true → u ≡ true
or_other true u none is = cc
or_other false u none is = is

module _ (first what : Happening) where
  -- once the first has happened, nothing is spent
  armed : (spent : ℕ) (entries : List Entry)
      → (watched (early first what ∷ arms first what ∷ []) (record { at = 2; spent = spent }) entries).spent ≤ spent
  armed spent [] = le_refl spent
  armed spent (entry ∷ rest) = armed spent rest

  only_after_spends : (spent : ℕ) (entries : List Entry) → IsOnlyAfter first what entries
      → (watched (early first what ∷ arms first what ∷ []) (record { at = 1; spent = spent }) entries).spent ≤ spent
  only_after_spends spent [] kept = le_refl spent
  only_after_spends spent (entry ∷ rest) kept =
      by (is_at what entry) (is_at first entry) (kept [] entry rest refl)
      (λ other. only_after_spends spent rest
      (λ earlier one later split is. or_other (is_at first entry) (happens first earlier) other (kept (entry ∷ earlier) one later (ap (λ list. entry ∷ list) split) is)))
    where
      by : (t u : Bool) → (t ≡ true → false ≡ true)
          → (u ≡ false → (watched (early first what ∷ arms first what ∷ []) (record { at = 1; spent = spent }) rest).spent ≤ spent)
          → (watched (early first what ∷ arms first what ∷ [])
          (moved (taken t (early first what) (taken u (arms first what) None)) (record { at = 1; spent = spent })) rest).spent ≤ spent
      by true u none later = absurd (cc (none refl))
      by false true none later =
          subst (λ n. (watched (early first what ∷ arms first what ∷ []) (record { at = 2; spent = spent + 0 }) rest).spent ≤ n)
          (plus_none spent) (armed (spent + 0) rest)
      by false false none later = later refl

  -- the second does not happen
  abbrev IsNone : List Entry → Type 0
  IsNone entries =
      (earlier : List Entry) (entry : Entry) (later : List Entry) → entries ≡ earlier ++ entry ∷ later → is_at what entry ≡ false

  none_spends : (spent : ℕ) (entries : List Entry) → IsNone entries
      → (watched (arms first what ∷ late first what ∷ []) (record { at = 2; spent = spent }) entries).spent ≤ spent
  none_spends spent [] none = le_refl spent
  none_spends spent (entry ∷ rest) none =
      by (is_at what entry) (none [] entry rest refl)
      (none_spends spent rest (λ earlier one later split. none (entry ∷ earlier) one later (ap (λ list. entry ∷ list) split)))
    where
      by : (t : Bool) → t ≡ false
          → (watched (arms first what ∷ late first what ∷ []) (record { at = 2; spent = spent }) rest).spent ≤ spent
          → (watched (arms first what ∷ late first what ∷ []) (moved (taken t (late first what) None) (record { at = 2; spent = spent })) rest).spent ≤ spent
      by true is later = cc
      by false is later = later

  never_after_spends : (spent : ℕ) (entries : List Entry) → IsNeverAfter first what entries
      → (watched (arms first what ∷ late first what ∷ []) (record { at = 1; spent = spent }) entries).spent ≤ spent
  never_after_spends spent [] kept = le_refl spent
  never_after_spends spent (entry ∷ rest) kept =
      by (is_at first entry)
      (λ is. none_spends (spent + 0) rest
      (λ earlier one later split. kept (entry ∷ earlier) one later (ap (λ list. entry ∷ list) split) (or_first (is_at first entry) (happens first earlier) is)))
      (λ other. never_after_spends spent rest
      (λ earlier one later split is. kept (entry ∷ earlier) one later (ap (λ list. entry ∷ list) split) (or_second (is_at first entry) (happens first earlier) is)))
    where
      by : (t : Bool)
          → (t ≡ true → (watched (arms first what ∷ late first what ∷ []) (record { at = 2; spent = spent + 0 }) rest).spent ≤ spent + 0)
          → (t ≡ false → (watched (arms first what ∷ late first what ∷ []) (record { at = 1; spent = spent }) rest).spent ≤ spent)
          → (watched (arms first what ∷ late first what ∷ []) (moved (taken t (arms first what) None) (record { at = 1; spent = spent })) rest).spent ≤ spent
      by true armed later =
          subst (λ n. (watched (arms first what ∷ late first what ∷ []) (record { at = 2; spent = spent + 0 }) rest).spent ≤ n)
          (plus_none spent) (armed refl)
      by false armed later = later refl

module _ (first last what : Happening) where
  -- once the third has happened, nothing is spent
  done : (spent : ℕ) (entries : List Entry) → (watched (pair first last what) (record { at = 3; spent = spent }) entries).spent ≤ spent
  done spent [] = le_refl spent
  done spent (entry ∷ rest) = done spent rest

  -- before each of the second, the third happens
  abbrev IsAnswered : List Entry → Type 0
  IsAnswered entries =
      (middle : List Entry) (other : Entry) (later : List Entry) → entries ≡ middle ++ other ∷ later
      → is_at last other ≡ true → happens what middle ≡ true

  answered_spends : (spent : ℕ) (entries : List Entry) → IsAnswered entries
      → (watched (pair first last what) (record { at = 2; spent = spent }) entries).spent ≤ spent
  answered_spends spent [] kept = le_refl spent
  answered_spends spent (entry ∷ rest) kept =
      by (is_at last entry) (is_at what entry) (kept [] entry rest refl)
      (λ other. answered_spends spent rest
      (λ middle one later split is. or_other (is_at what entry) (happens what middle) other (kept (entry ∷ middle) one later (ap (λ list. entry ∷ list) split) is)))
    where
      by : (l w : Bool) → (l ≡ true → false ≡ true)
          → (w ≡ false → (watched (pair first last what) (record { at = 2; spent = spent }) rest).spent ≤ spent)
          → (watched (pair first last what)
          (moved (taken l (misses first last what) (taken w (answers first last what) None)) (record { at = 2; spent = spent })) rest).spent ≤ spent
      by true w none later = absurd (cc (none refl))
      by false true none later =
          subst (λ n. (watched (pair first last what) (record { at = 3; spent = spent + 0 }) rest).spent ≤ n)
          (plus_none spent) (done (spent + 0) rest)
      by false false none later = later refl

  between_spends : (spent : ℕ) (entries : List Entry) → IsBetween first last what entries
      → (watched (pair first last what) (record { at = 1; spent = spent }) entries).spent ≤ spent
  between_spends spent [] kept = le_refl spent
  between_spends spent (entry ∷ rest) kept =
      by (is_at first entry)
      (λ is. answered_spends (spent + 0) rest
      (λ middle other later split ends. kept [] entry middle other later (ap (λ list. entry ∷ list) split) refl is ends))
      (λ other. between_spends spent rest
      (λ earlier one middle ending later split none is ends.
      kept (entry ∷ earlier) one middle ending later (ap (λ list. entry ∷ list) split) (or_neither (is_at first entry) (happens first earlier) other none) is ends))
    where
      by : (t : Bool)
          → (t ≡ true → (watched (pair first last what) (record { at = 2; spent = spent + 0 }) rest).spent ≤ spent + 0)
          → (t ≡ false → (watched (pair first last what) (record { at = 1; spent = spent }) rest).spent ≤ spent)
          → (watched (pair first last what) (moved (taken t (opens first last what) None) (record { at = 1; spent = spent })) rest).spent ≤ spent
      by true waits later =
          subst (λ n. (watched (pair first last what) (record { at = 2; spent = spent + 0 }) rest).spent ≤ n)
          (plus_none spent) (waits refl)
      by false waits later = later refl

-- so if a watch has spent more than its budget, the promise is not kept
pub kept_spends : (promise : Promise) (entries : List Entry) → KeptIn promise entries
    → (watched (watch_of promise).turns new_standing entries).spent ≤ (watch_of promise).budget
kept_spends (at_most most what) entries kept =
    let sum : (watched (watch_of (at_most most what)).turns (record { at = 1; spent = 0 }) entries).spent ≡ 0 + times what entries =
    counted what 0 entries in
    omega (arith, sum, kept)
kept_spends (only_after first what) entries kept = only_after_spends first what 0 entries kept
kept_spends (never_after first what) entries kept = never_after_spends first what 0 entries kept
kept_spends (between first last what) entries kept = between_spends first last what 0 entries kept
kept_spends (keeps_watch watch) entries kept = kept
