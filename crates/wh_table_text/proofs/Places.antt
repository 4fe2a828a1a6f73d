-- Lists joined from parts that depend on places, one member after another.
use Rattle.std.proofs.Common.{◌≡◌, ℕ, suc, ◌+◌, ◌<◌, ◌≤◌, List, ◌++◌, length, get_or, drop, ap, sym, ◌∙◌, append_assoc, append-nil, drop_of_length-le, arith}
use Rattle.std.specs.Prelude.{map}
use Rattle.std.proofs.Math.Seq.{drop-cons}
use Rattle.wh_table_text.specs.Numbered.{numbered}

plus_one : (n : ℕ) → suc n ≡ n + 1
plus_one n = omega arith

-- the part of one more member is added
pub numbered_on : {A B : Type 0} (part : ℕ → A → List B) (front : List B) (xs : List A) (i : ℕ) (x : A)
    → i < length xs → x ≡ get_or xs i x
    → front ++ numbered part i (drop i xs) ≡ (front ++ part i x) ++ numbered part (i + 1) (drop (i + 1) xs)
numbered_on part front xs i x within is =
    ap (λ rest. front ++ numbered part i rest) (drop-cons xs i x within)
    ∙ ap (λ one. front ++ (part i one ++ numbered part (suc i) (drop (suc i) xs))) (sym is)
    ∙ ap (λ next. front ++ (part i x ++ numbered part next (drop next xs))) (plus_one i)
    ∙ sym (append_assoc front (part i x) (numbered part (i + 1) (drop (i + 1) xs)))

-- the parts of all members are added
pub numbered_all : {A B : Type 0} (part : ℕ → A → List B) (front : List B) (xs : List A) (i : ℕ) → length xs ≤ i
    → front ++ numbered part i (drop i xs) ≡ front
numbered_all part front xs i past =
    ap (λ rest. front ++ numbered part i rest) (drop_of_length-le xs past) ∙ append-nil front

-- the same for members that are seen by a view
pub seen_on : {A B C : Type 0} (view : C → A) (part : ℕ → A → List B) (front : List B) (xs : List C) (i : ℕ) (x : C)
    → i < length xs → x ≡ get_or xs i x
    → front ++ numbered part i (map view (drop i xs))
    ≡ (front ++ part i (view x)) ++ numbered part (i + 1) (map view (drop (i + 1) xs))
seen_on view part front xs i x within is =
    ap (λ rest. front ++ numbered part i (map view rest)) (drop-cons xs i x within)
    ∙ ap (λ one. front ++ (part i (view one) ++ numbered part (suc i) (map view (drop (suc i) xs)))) (sym is)
    ∙ ap (λ next. front ++ (part i (view x) ++ numbered part next (map view (drop next xs)))) (plus_one i)
    ∙ sym (append_assoc front (part i (view x)) (numbered part (i + 1) (map view (drop (i + 1) xs))))

pub seen_all : {A B C : Type 0} (view : C → A) (part : ℕ → A → List B) (front : List B) (xs : List C) (i : ℕ)
    → length xs ≤ i → front ++ numbered part i (map view (drop i xs)) ≡ front
seen_all view part front xs i past =
    ap (λ rest. front ++ numbered part i (map view rest)) (drop_of_length-le xs past) ∙ append-nil front
