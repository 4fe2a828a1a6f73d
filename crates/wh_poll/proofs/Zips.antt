-- Lists that are made from the last to the first, and lists side by side.
use Rattle.std.proofs.Common.{◌≡◌, append_assoc, ℕ, suc, ◌<◌, List, [], ◌∷◌, ◌++◌, length, map, reverse, refl, sym, ap, ◌∙◌, subst, arith}
use Rattle.std.specs.Prelude.{slice_index_or, replicate, zero}
use Rattle.std.specs.List.{AllZip, zip}
use Rattle.std.proofs.lemmas.List.{reverse-append}

map-append : {A B : Type 0} (f : A → B) (xs ys : List A) → map f (xs ++ ys) ≡ map f xs ++ map f ys
map-append f [] ys = refl
map-append f (x ∷ xs) ys = ap (λ l. f x ∷ l) (map-append f xs ys)

pub map-reverse : {A B : Type 0} (f : A → B) (xs : List A) → map f (reverse xs) ≡ reverse (map f xs)
map-reverse f [] = refl
map-reverse f (x ∷ xs) =
    ap (map f) (reverse-append (x ∷ []) xs) ∙ map-append f (reverse xs) (x ∷ []) ∙ ap (λ l. l ++ (f x ∷ [])) (map-reverse f xs) ∙ sym (reverse-append (f x ∷ []) (map f xs))

empty : {A : Type 0} (xs : List A) → length xs ≡ 0 → xs ≡ []
empty [] e = refl
empty (x ∷ xs) e = absurd (omega (arith, e))

-- a list that was made from the last to the first stands in order once it is turned round
pub in_order : {A B : Type 0} (f : A → B) (left all : List B) (made turned : List A) → left ++ reverse (map f made) ≡ all → length left ≡ 0 → turned ≡ reverse made → map f turned ≡ all
in_order f left all made turned parts none is =
    ap (map f) is ∙ map-reverse f made ∙ ap (λ l. l ++ reverse (map f made)) (sym (empty left none)) ∙ parts

-- one taken from the end of the one list and put to the other, which is turned round
pub one_taken : {A B X : Type 0} (f : A → X) (h : B → X) (before left : List A) (x : A) (taken put : List B) (y : B) (all : List X)
    → before ≡ left ++ x ∷ [] → put ≡ taken ++ y ∷ [] → h y ≡ f x → map f before ++ reverse (map h taken) ≡ all → map f left ++ reverse (map h put) ≡ all
one_taken f h before left x taken put y all was now same parts =
    ap (λ l. map f left ++ reverse (map h l)) now
    ∙ ap (λ l. map f left ++ reverse l) (map-append h taken (y ∷ []))
    ∙ ap (λ l. map f left ++ l) (reverse-append (map h taken) (h y ∷ []))
    ∙ ap (λ z. map f left ++ (z ∷ reverse (map h taken))) same
    ∙ sym (append_assoc (map f left) (f x ∷ []) (reverse (map h taken)))
    ∙ ap (λ l. l ++ reverse (map h taken)) (sym (map-append f left (x ∷ [])))
    ∙ ap (λ l. map f l ++ reverse (map h taken)) (sym was)
    ∙ parts

-- what holds at each place holds of the lists
pub zip_each : {J W : Type 0} (R : J → W → Type 0) (pairs : List J) (ended : List W) → length ended ≡ length pairs
    → ((i : ℕ) (j : J) (w : W) → i < length pairs → R (slice_index_or pairs i j) (slice_index_or ended i w))
    → AllZip R pairs ended
zip_each R [] [] same each = tt
zip_each R [] (w ∷ ws) same each = absurd (omega (arith, same))
zip_each R (j ∷ js) [] same each = absurd (omega (arith, same))
zip_each R (j ∷ js) (w ∷ ws) same each =
    let rest : length ws ≡ length js = omega (arith, same) in (
      each 0 j w (omega arith),
      zip_each R js ws rest (λ i k v below. let here : suc i < length (j ∷ js) = omega (arith, below) in each (suc i) k v here),
    )

-- what follows at each place follows of the lists
pub zip_into : {J W P L : Type 0} (R : J → W → Type 0) (Q : P → L → Type 0) (setup : J → P) (end : W → L) (pairs : List J) (ended : List W)
    → AllZip R pairs ended → ((j : J) (w : W) → R j w → Q (setup j) (end w)) → AllZip Q (map setup pairs) (map end ended)
zip_into R Q setup end [] [] all next = tt
zip_into R Q setup end [] (w ∷ ws) all next = absurd all
zip_into R Q setup end (j ∷ js) [] all next = absurd all
zip_into R Q setup end (j ∷ js) (w ∷ ws) all next = (next j w all.0, zip_into R Q setup end js ws all.1 next)

pub zip_weaker : {J W : Type 0} (R Q : J → W → Type 0) (pairs : List J) (ended : List W) → AllZip R pairs ended → ((j : J) (w : W) → R j w → Q j w) → AllZip Q pairs ended
zip_weaker R Q [] [] all next = tt
zip_weaker R Q [] (w ∷ ws) all next = absurd all
zip_weaker R Q (j ∷ js) [] all next = absurd all
zip_weaker R Q (j ∷ js) (w ∷ ws) all next = (next j w all.0, zip_weaker R Q js ws all.1 next)

-- pairs are their firsts beside their seconds
pub pairs_are : {A B : Type 0} (pairs : List (A × B)) → pairs ≡ zip (map (λ pair. pair.0) pairs) (map (λ pair. pair.1) pairs)
pairs_are [] = refl
pairs_are (pair ∷ pairs) = ap (λ l. pair ∷ l) (pairs_are pairs)

pub map-map : {A B C : Type 0} (f : B → C) (h : A → B) (xs : List A) → map f (map h xs) ≡ map (λ x. f (h x)) xs
map-map f h [] = refl
map-map f h (x ∷ xs) = ap (λ l. f (h x) ∷ l) (map-map f h xs)

pub map-self : {A : Type 0} (xs : List A) → map (λ x. x) xs ≡ xs
map-self [] = refl
map-self (x ∷ xs) = ap (λ l. x ∷ l) (map-self xs)

-- what is said of two and of three lists is said of lists that are the same
pub moved_two : {A B : Type 0} (R : A → B → Type 0) (a d : A) (b e : B) → a ≡ d → b ≡ e → R a b → R d e
moved_two R a d b e p q x = subst (λ y. R d y) q (subst (λ w. R w b) p x)

pub moved : {A B C : Type 0} (R : A → B → C → Type 0) (a d : A) (b e : B) (c f : C) → a ≡ d → b ≡ e → c ≡ f → R a b c → R d e f
moved R a d b e c f p q r x = subst (λ z. R d e z) r (subst (λ y. R d y c) q (subst (λ w. R w b c) p x))

-- where all seats had counted the same, it is said of the setups alone
pub of_fresh : {Z P L : Type 0} (R : Z → P → L → Type 0) (z : Z) (count : ℕ) (setups : List P) (ends : List L) → length setups ≡ count
    → AllZip (λ seated end. R seated.0 seated.1 end) (zip (replicate count z) setups) ends → AllZip (R z) setups ends
of_fresh R z zero [] [] same all = tt
of_fresh R z zero [] (l ∷ ls) same all = absurd all
of_fresh R z zero (p ∷ ps) ends same all = absurd (omega (arith, same))
of_fresh R z (suc count) [] ends same all = absurd (omega (arith, same))
of_fresh R z (suc count) (p ∷ ps) [] same all = absurd all
of_fresh R z (suc count) (p ∷ ps) (l ∷ ls) same all =
    let rest : length ps ≡ count = omega (arith, same) in (all.0, of_fresh R z count ps ls rest all.1)
