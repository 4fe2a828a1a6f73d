-- Values are read one after another, up to the first fault.
use Rattle.std.proofs.Common.{◌≡◌, ℕ, ◌<◌, ◌≤◌, ◌+◌, List, [], ◌∷◌, ◌++◌, length, get_or, drop, add-one, refl, ap, subst, sym, ◌∙◌, append_assoc, append-nil, drop_of_length-le, Result, Ok, Err}
use Rattle.std.specs.Prelude.{map}
use Rattle.std.proofs.Math.Seq.{drop-cons}
use Rattle.wh_row_rules.specs.declared.or_memory.OrMemory.{OrMemory}
use Rattle.wh_row_rules.specs.declared.or_memory.OrMemory.TheVariants as or
use Rattle.wh_row_rules.specs.Outcome.{◌>>=◌, all_of, StopsAt}

-- values that were read before, and the rest
abbrev pub with_front : {A F : Type 0} → List A → Result (List A) F → Result (List A) F
with_front front rest = rest >>= (λ xs. Ok (front ++ xs))

-- one more value has been read
front_more : {A F : Type 0} (front : List A) (x : A) (rest : Result (List A) F)
    → with_front front (rest >>= (λ xs. Ok (x ∷ xs))) ≡ with_front (front ++ x ∷ []) rest
front_more front x (Ok xs) = ap Ok (sym (append_assoc front (x ∷ []) xs))
front_more front x (Err fault) = refl

pub front_step : {A F : Type 0} (front : List A) (r : Result A F) (x : A) (rest : List (Result A F)) → r ≡ Ok x
    → with_front front (all_of (r ∷ rest)) ≡ with_front (front ++ x ∷ []) (all_of rest)
front_step front r x rest is = ap (λ q. with_front front (all_of (q ∷ rest))) is ∙ front_more front x (all_of rest)

-- the first that stops, stops the list
pub front_stops : {A F : Type 0} (front : List A) (r : Result A F) (rest : List (Result A F)) (fault : OrMemory F) → StopsAt fault r
    → StopsAt fault (with_front front (all_of (r ∷ rest)))
front_stops front r rest (or.Fault fault) stops = ap (λ q. with_front front (all_of (q ∷ rest))) stops
front_stops front r rest or.OutOfMemory stops = tt

-- the values from a place on are the one there and those after it
pub from_place : {C D : Type 0} (view : C → D) (vs : List C) (i : ℕ) (v : C) → i < length vs
    → map view (drop i vs) ≡ view (get_or vs i v) ∷ map view (drop (i + 1) vs)
from_place view vs i v below = rw (add-one, drop-cons vs i v) refl

pub none_left : {C D : Type 0} (view : C → D) (vs : List C) (i : ℕ) → length vs ≤ i → map view (drop i vs) ≡ []
none_left view vs i past = ap (map view) (drop_of_length-le vs past)

-- a list, each member of which is read by itself
pub each_on : {A C F : Type 0} (read : C → Result A F) (front : List A) (vs : List C) (i : ℕ) (v : C) (x : A)
    → i < length vs → v ≡ get_or vs i v → read v ≡ Ok x
    → with_front front (all_of (map read (drop i vs))) ≡ with_front (front ++ x ∷ []) (all_of (map read (drop (i + 1) vs)))
each_on read front vs i v x below is gives =
    ap (λ rest. with_front front (all_of rest)) (from_place read vs i v below)
    ∙ front_step front (read (get_or vs i v)) x (map read (drop (i + 1) vs)) (subst (λ w. read w ≡ Ok x) is gives)

pub each_all : {A C F : Type 0} (read : C → Result A F) (front : List A) (vs : List C) (i : ℕ) → length vs ≤ i
    → with_front front (all_of (map read (drop i vs))) ≡ Ok front
each_all read front vs i past = ap (λ rest. with_front front (all_of rest)) (none_left read vs i past) ∙ ap Ok (append-nil front)

pub each_stops : {A C F : Type 0} (read : C → Result A F) (front : List A) (vs : List C) (i : ℕ) (v : C) (fault : OrMemory F)
    → i < length vs → v ≡ get_or vs i v → StopsAt fault (read v)
    → StopsAt fault (with_front front (all_of (map read (drop i vs))))
each_stops read front vs i v fault below is stops =
    subst (λ rest. StopsAt fault (with_front front (all_of rest))) (sym (from_place read vs i v below))
    (front_stops front (read (get_or vs i v)) (map read (drop (i + 1) vs)) fault (subst (λ w. StopsAt fault (read w)) is stops))

-- a list of values, each of which is read by itself as `view` sees it
pub seen_on : {A C D F : Type 0} (view : C → D) (read : D → Result A F) (front : List A) (vs : List C) (i : ℕ) (v : C) (x : A)
    → i < length vs → v ≡ get_or vs i v → read (view v) ≡ Ok x
    → with_front front (all_of (map read (map view (drop i vs)))) ≡ with_front (front ++ x ∷ []) (all_of (map read (map view (drop (i + 1) vs))))
seen_on view read front vs i v x below is gives =
    ap (λ ds. with_front front (all_of (map read ds))) (from_place view vs i v below)
    ∙ front_step front (read (view (get_or vs i v))) x (map read (map view (drop (i + 1) vs))) (subst (λ w. read (view w) ≡ Ok x) is gives)

pub seen_all : {A C D F : Type 0} (view : C → D) (read : D → Result A F) (front : List A) (vs : List C) (i : ℕ) → length vs ≤ i
    → with_front front (all_of (map read (map view (drop i vs)))) ≡ Ok front
seen_all view read front vs i past =
    ap (λ ds. with_front front (all_of (map read ds))) (none_left view vs i past) ∙ ap Ok (append-nil front)

pub seen_stops : {A C D F : Type 0} (view : C → D) (read : D → Result A F) (front : List A) (vs : List C) (i : ℕ) (v : C) (fault : OrMemory F)
    → i < length vs → v ≡ get_or vs i v → StopsAt fault (read (view v))
    → StopsAt fault (with_front front (all_of (map read (map view (drop i vs)))))
seen_stops view read front vs i v fault below is stops =
    subst (λ ds. StopsAt fault (with_front front (all_of (map read ds)))) (sym (from_place view vs i v below))
    (front_stops front (read (view (get_or vs i v))) (map read (map view (drop (i + 1) vs))) fault
    (subst (λ w. StopsAt fault (read (view w))) is stops))
