-- A text within HTML has no byte of markup.
use Rattle.std.proofs.Common.{◌≡◌, ◌≤◌, ◌<◌, ◌+◌, ◌/◌, ◌%◌, ◌&&◌, not, ℕ, Bool, true, false, cond, Option, Some, None, List, [], ◌∷◌, ◌++◌, take, length, refl, ap, arith}
use Rattle.std.proofs.Math.Utf8.{encode, next}
use Rattle.std.proofs.lemmas.Bool.{le-leb, leb-true, ltb-true, ltb-false, ne_eqb, and_from, and_parts, not_from_false}
use Rattle.std.proofs.lemmas.Str.{encode_ascii}
use Rattle.std.specs.Prelude.{◌==◌, nat_le, nat_lt, codes}
use Rattle.std.specs.List.{flat_map, list_all}
use Rattle.std.specs.Str.{chars}
use Rattle.wh_html.specs.Escaping.{is_unseen, seen, reference_of, referred, escaped_char, escaped_first, rest_of}
use Rattle.wh_html.specs.Laws.{is_harmless, TextsAreHarmless}

-- a list of bytes that pass a test passes a weaker one
pub all-weaker : (p q : ℕ → Bool) → ((b : ℕ) → p b ≡ true → q b ≡ true) → (xs : List ℕ) → list_all p xs ≡ true → list_all q xs ≡ true
all-weaker p q weaker [] e = refl
all-weaker p q weaker (x ∷ xs) e =
    let parts = and_parts (p x) (list_all p xs) e in
    and_from (q x) (list_all q xs) (weaker x parts.0) (all-weaker p q weaker xs parts.1)

-- two lists that pass pass as one
pub all-append : (p : ℕ → Bool) (xs ys : List ℕ) → list_all p xs ≡ true → list_all p ys ≡ true → list_all p (xs ++ ys) ≡ true
all-append p [] ys e f = f
all-append p (x ∷ xs) ys e f =
    let parts = and_parts (p x) (list_all p xs) e in
    and_from (p x) (list_all p (xs ++ ys)) parts.0 (all-append p xs ys parts.1 f)

-- a byte beyond another is another
pub beyond : (n b : ℕ) → n < b → (b == n) ≡ false
beyond n b h = ne_eqb b n (λ e. omega arith)

-- a byte of none of these kinds is harmless
harmless : (b : ℕ) → 32 ≤ b → (b == 127) ≡ false → (b == 60) ≡ false → (b == 62) ≡ false → (b == 34) ≡ false → (b == 39) ≡ false → is_harmless b ≡ true
harmless b low e f g h i =
    and_from _ _ (and_from _ _ (and_from _ _ (and_from _ _ (and_from _ _ (le-leb 32 b low) (not_from_false _ e)) (not_from_false _ f)) (not_from_false _ g)) (not_from_false _ h)) (not_from_false _ i)

-- a byte beyond ASCII is harmless
high : (b : ℕ) → nat_le 128 b ≡ true → is_harmless b ≡ true
high b e =
    let h = leb-true 128 b e in
    harmless b (omega arith) (beyond 127 b (omega arith)) (beyond 60 b (omega arith)) (beyond 62 b (omega arith)) (beyond 34 b (omega arith)) (beyond 39 b (omega arith))

-- a character beyond ASCII has bytes beyond ASCII alone
pub encode-high : (c : ℕ) → nat_lt c 128 ≡ false → list_all (nat_le 128) (encode c) ≡ true
unfolding encode
encode-high c e = by (nat_lt c 128) (nat_lt c 2048) (nat_lt c 65536) e
  where
    up : (low m : ℕ) → 128 ≤ low → nat_le 128 (low + m) ≡ true
    up low m h = le-leb 128 (low + m) (omega arith)

    tail : (m : ℕ) → nat_le 128 (next m) ≡ true
    tail m = up 128 (m % 64) (omega arith)

    by : (x y z : Bool) → x ≡ false → list_all (nat_le 128) (cond x (c ∷ []) (cond y ((192 + c / 64) ∷ next c ∷ []) (cond z ((224 + c / 4096) ∷ next (c / 64) ∷ next c ∷ []) ((240 + c / 262144) ∷ next (c / 4096) ∷ next (c / 64) ∷ next c ∷ [])))) ≡ true
    by true y z f = cc
    by false true z f = and_from _ _ (up 192 (c / 64) (omega arith)) (and_from _ _ (tail c) refl)
    by false false true f = and_from _ _ (up 224 (c / 4096) (omega arith)) (and_from _ _ (tail (c / 64)) (and_from _ _ (tail c) refl))
    by false false false f =
        and_from _ _ (up 240 (c / 262144) (omega arith)) (and_from _ _ (tail (c / 4096)) (and_from _ _ (tail (c / 64)) (and_from _ _ (tail c) refl)))

-- a character that stands as itself
itself : (d : ℕ) → 32 ≤ d → (d == 127) ≡ false → (d == 60) ≡ false → (d == 62) ≡ false → (d == 34) ≡ false → (d == 39) ≡ false → list_all is_harmless (encode d) ≡ true
itself d low e f g h i = by (nat_lt d 128) refl
  where
    by : (x : Bool) → nat_lt d 128 ≡ x → list_all is_harmless (encode d) ≡ true
    by true p = rw (encode_ascii d (ltb-true d 128 p)) (and_from _ _ (harmless d low e f g h i) refl)
    by false p = all-weaker (nat_le 128) is_harmless high (encode d) (encode-high d p)

one : (d : ℕ) → 32 ≤ d → (d == 127) ≡ false → list_all is_harmless (referred (reference_of d) d) ≡ true
one d low e = by (d == 38) (d == 60) (d == 62) (d == 34) (d == 39) refl refl refl refl
  where
    by : (a b c f g : Bool) → (d == 60) ≡ b → (d == 62) ≡ c → (d == 34) ≡ f → (d == 39) ≡ g → list_all is_harmless (referred (cond a (Some (codes "&amp;")) (cond b (Some (codes "&lt;")) (cond c (Some (codes "&gt;")) (cond f (Some (codes "&quot;")) (cond g (Some (codes "&#39;")) None))))) d) ≡ true
    by true b c f g p q r s = refl
    by false true c f g p q r s = refl
    by false false true f g p q r s = refl
    by false false false true g p q r s = refl
    by false false false false true p q r s = refl
    by false false false false false p q r s = itself d low e p q r s

-- a character is not shown as a control character of ASCII
seen-low : (c : ℕ) → 32 ≤ seen c
seen-low c = by (nat_lt c 32) (c == 127) (is_unseen c) refl
  where
    by : (x y z : Bool) → nat_lt c 32 ≡ x → 32 ≤ cond x (9216 + c) (cond y 9249 (cond z 65533 c))
    by true y z e = omega arith
    by false true z e = omega arith
    by false false true e = omega arith
    by false false false e = ltb-false c 32 e

seen-delete : (c : ℕ) → (seen c == 127) ≡ false
seen-delete c = by (nat_lt c 32) (c == 127) (is_unseen c) refl
  where
    by : (x y z : Bool) → (c == 127) ≡ y → (cond x (9216 + c) (cond y 9249 (cond z 65533 c)) == 127) ≡ false
    by true y z e = beyond 127 (9216 + c) (omega arith)
    by false true z e = refl
    by false false true e = refl
    by false false false e = e

each : (cs : List ℕ) → list_all is_harmless (flat_map escaped_char cs) ≡ true
each [] = refl
each (c ∷ cs) = all-append is_harmless (escaped_char c) (flat_map escaped_char cs) (one (seen c) (seen-low c) (seen-delete c)) (each cs)

rest : (most : ℕ) (text : List ℕ) → list_all is_harmless (rest_of most text) ≡ true
rest most text = by (nat_lt most (length (chars text)))
  where
    by : (x : Bool) → list_all is_harmless (cond x (226 ∷ 128 ∷ 166 ∷ []) []) ≡ true
    by true = refl
    by false = refl

pub texts_are_harmless : TextsAreHarmless
unfolding escaped_first
texts_are_harmless most text =
    all-append is_harmless (escaped_first most text) (rest_of most text) (each (take most (chars text))) (rest most text)
