-- Elements of a list by their places.
use Rattle.std.proofs.Common.{◌≡◌, ◌∙◌, ℕ, zero, suc, ◌+◌, ◌<◌, ◌++◌, List, [], ◌∷◌, Some, drop, take, length, slice_get, refl, ap, arith}
use Rattle.std.proofs.lemmas.Option.{none-some}

pub slice_get-drop : {A : Type 0} (n : ℕ) (xs : List A) (k : ℕ) → slice_get (drop n xs) k ≡ slice_get xs (n + k)
slice_get-drop zero xs k = let e : k ≡ 0 + k = omega arith in ap (λ i. slice_get xs i) e
slice_get-drop (suc n) [] k = refl
slice_get-drop (suc n) (x ∷ xs) k = let e : suc (n + k) ≡ suc n + k = omega arith in slice_get-drop n xs k ∙ ap (λ i. slice_get (x ∷ xs) i) e

pub slice_get-take : {A : Type 0} (count k : ℕ) (xs : List A) → k < count → slice_get (take count xs) k ≡ slice_get xs k
slice_get-take zero k xs h = absurd (omega arith)
slice_get-take (suc count) k [] h = refl
slice_get-take (suc count) zero (x ∷ xs) h = refl
slice_get-take (suc count) (suc k) (x ∷ xs) h = slice_get-take count k xs (omega arith)

-- an element of a beginning is one of the list, at the same place
pub at_beginning : {A : Type 0} (count : ℕ) (xs : List A) (k : ℕ) (x : A) → slice_get (take count xs) k ≡ Some x → slice_get xs k ≡ Some x
at_beginning zero xs k x e = absurd (none-some x e)
at_beginning (suc count) [] k x e = absurd (none-some x e)
at_beginning (suc count) (y ∷ xs) zero x e = e
at_beginning (suc count) (y ∷ xs) (suc k) x e = at_beginning count xs k x e

pub slice_get-left : {A : Type 0} (xs ys : List A) (k : ℕ) → k < length xs → slice_get (xs ++ ys) k ≡ slice_get xs k
slice_get-left [] ys k h = absurd (omega arith)
slice_get-left (x ∷ xs) ys zero h = refl
slice_get-left (x ∷ xs) ys (suc k) h = slice_get-left xs ys k (omega arith)

pub slice_get-right : {A : Type 0} (xs ys : List A) (k : ℕ) → slice_get (xs ++ ys) (length xs + k) ≡ slice_get ys k
slice_get-right [] ys k = let e : 0 + k ≡ k = omega arith in ap (λ i. slice_get ys i) e
slice_get-right (x ∷ xs) ys k =
    let e : suc (length xs) + k ≡ suc (length xs + k) = omega arith in
    ap (λ i. slice_get ((x ∷ xs) ++ ys) i) e ∙ slice_get-right xs ys k

pub slice_get-seam : {A : Type 0} (xs : List A) (y : A) (ys : List A) → slice_get (xs ++ y ∷ ys) (length xs) ≡ Some y
slice_get-seam [] y ys = refl
slice_get-seam (x ∷ xs) y ys = slice_get-seam xs y ys
