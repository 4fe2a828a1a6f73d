-- Part of a list, one element at a time.
use Rattle.std.proofs.Common.{◌≡◌, ◌∙◌, ◌++◌, ◌+◌, ◌-◌, ◌<◌, ◌≤◌, ℕ, suc, List, [], ◌∷◌, take, drop, length, get_or, min, ap, sym, append_assoc, length-drop, arith}
use Rattle.std.proofs.lemmas.List.{drop_more, take_min}

part_begins : {A : Type 0} (xs : List A) (place stop : ℕ) (x : A) → place < stop → stop ≤ length xs → take (stop - place) (drop place xs) ≡ get_or xs place x ∷ take (stop - (place + 1)) (drop (place + 1) xs)
part_begins xs place stop x before within =
    let more : stop - place ≡ suc (stop - (place + 1)) = omega arith in
    let inside : place < length xs = omega arith in
    ap (λ n. take n (drop place xs)) more ∙ ap (λ rest. take (suc (stop - (place + 1))) rest) (drop_more xs place x inside)

-- with the element at its begin a part goes on after it
pub part_goes_on : {A : Type 0} (copies after whole xs : List A) (x : A) (place stop : ℕ) → place < stop → stop ≤ length xs → after ≡ copies ++ x ∷ [] → x ≡ get_or xs place x → copies ++ take (stop - place) (drop place xs) ≡ whole → after ++ take (stop - (place + 1)) (drop (place + 1) xs) ≡ whole
part_goes_on copies after whole xs x place stop before within pushed is held =
    let rest = take (stop - (place + 1)) (drop (place + 1) xs) in
    ap (λ list. list ++ rest) pushed
    ∙ append_assoc copies (x ∷ []) rest
    ∙ ap (λ first. copies ++ (first ∷ rest)) is
    ∙ ap (λ part. copies ++ part) (sym (part_begins xs place stop x before within))
    ∙ held

-- a part ends where the list ends
pub part_within : {A : Type 0} (xs : List A) (begin end : ℕ) → take (min end (length xs) - begin) (drop begin xs) ≡ take (end - begin) (drop begin xs)
part_within xs begin end =
    let same : min end (length xs) - begin ≡ min (end - begin) (length (drop begin xs)) = omega (arith, length-drop begin xs) in
    ap (λ n. take n (drop begin xs)) same ∙ take_min (end - begin) (drop begin xs)
