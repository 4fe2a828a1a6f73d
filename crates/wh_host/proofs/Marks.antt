-- Lists of marks: one looked up, all of a key evicted.
use Rattle.std.proofs.Common.{◌≡◌, ℕ, zero, suc, ◌<◌, Bool, true, false, List, [], ◌∷◌, ◌++◌, length, take, drop, get_or, Option, Some, None, refl, sym, ap, ◌∙◌, subst, arith, take_all}
use Rattle.std.specs.Prelude.{map, ◌||◌, slice_get, slice_set}
use Rattle.std.proofs.lemmas.List.{take-append-le}
use Rattle.std.proofs.lemmas.Option.{same_Some, slice_get-get_or}
use Rattle.wh_events.specs.declared.key.RunKey.{RunKey}
use Rattle.wh_events.specs.Keys.{same_key, same_key-true, same_key-refl}
use Rattle.wh_host.specs.declared.state.Mark.{Mark}
use Rattle.wh_host.specs.Machine.{has_key, has_mark, is_marked_at}

pub item_at : {X : Type 0} (xs : List X) (i : ℕ) (x : X) → i < length xs → x ≡ get_or xs i x → slice_get xs i ≡ Some x
item_at xs i x within same = slice_get-get_or xs i x within ∙ ap Some (sym same)

pub marked_here : (marks : List (Option Mark)) (at : ℕ) (key : RunKey) (mark : Mark) → slice_get marks at ≡ Some (Some mark) → same_key mark.key key ≡ true → is_marked_at marks at key mark.evicted
marked_here marks at key mark there same = subst (λ (k : RunKey). slice_get marks at ≡ Some (Some (record { key = k; evicted = mark.evicted }))) (same_key-true mark.key key same) there

pub other_key : (marks : List (Option Mark)) (at : ℕ) (key : RunKey) (mark : Mark) → slice_get marks at ≡ Some (Some mark) → same_key mark.key key ≡ false → (evicted : Bool) → is_marked_at marks at key evicted → ⊥
other_key marks at key mark there differs evicted is =
    let here : mark ≡ record { key = key; evicted = evicted } = same_Some mark _ (same_Some _ _ (sym there ∙ is)) in
    let same = ap (λ (m : Mark). same_key m.key key) here ∙ same_key-refl key in cc

pub no_key : (marks : List (Option Mark)) (at : ℕ) (key : RunKey) → slice_get marks at ≡ Some None → (evicted : Bool) → is_marked_at marks at key evicted → ⊥
no_key marks at key there evicted is = let both = sym there ∙ is in cc

module _ {X : Type 0} (f : X → X) where
  pub one_more : (xs : List X) (i : ℕ) (x : X) → i < length xs → x ≡ get_or (map f (take i xs) ++ drop i xs) i x → slice_set (map f (take i xs) ++ drop i xs) i (f x) ≡ map f (take (suc i) xs) ++ drop (suc i) xs
  one_more [] i x within same = absurd (omega arith)
  one_more (y ∷ ys) zero x within same = ap (λ z. f z ∷ ys) same
  one_more (y ∷ ys) (suc i) x within same = ap (λ l. f y ∷ l) (one_more ys i x (omega arith) same)

  pub unchanged_at : (xs : List X) (i : ℕ) (x : X) → i < length xs → get_or (map f (take i xs) ++ drop i xs) i x ≡ get_or xs i x
  unchanged_at [] i x within = absurd (omega arith)
  unchanged_at (y ∷ ys) zero x within = refl
  unchanged_at (y ∷ ys) (suc i) x within = unchanged_at ys i x (omega arith)

pub has_mark-from : (key : RunKey) (marks : List (Option Mark)) (i : ℕ) (m : Option Mark) → i < length marks → m ≡ get_or marks i m → has_mark key (drop i marks) ≡ (has_key key m || has_mark key (drop (suc i) marks))
has_mark-from key [] i m within same = absurd (omega arith)
has_mark-from key (n ∷ ns) zero m within same = ap (λ (x : Option Mark). has_key key x || has_mark key ns) (sym same)
has_mark-from key (n ∷ ns) (suc i) m within same = has_mark-from key ns i m (omega arith) same

pub now_found : (found has rest all : Bool) → has ≡ true → (found || (has || rest)) ≡ all → (true || rest) ≡ all
now_found true true rest all h e = e
now_found false true rest all h e = e
now_found true false rest all h e = cc
now_found false false rest all h e = cc

pub not_found : (found has rest all : Bool) → has ≡ false → (found || (has || rest)) ≡ all → (found || rest) ≡ all
not_found found false rest all h e = e
not_found found true rest all h e = cc

-- a slice of a whole list that was written
pub written : {X : Type 0} (len : ℕ) (new items : List X) → length new ≡ len → take len (new ++ drop (length new) items) ≡ new
written len new items same = take-append-le len new (drop (length new) items) (omega arith) ∙ take_all len new (omega arith)
