-- A text in UTF-8 consists of bytes.
use Rattle.std.proofs.Common.{◌≡◌, ℕ, zero, suc, ◌+◌, ◌/◌, ◌<◌, List, [], ◌∷◌, ◌++◌, Bool, true, false, cond, nat_lt, refl, subst, arith, inl, inr, ltb-true, IsUtf8}
use Rattle.std.proofs.lemmas.Bool.{and_parts}
use Rattle.std.proofs.Math.Utf8.{scalar, scalars, scalar_cases, next, encode, encodes}
use Rattle.base64.specs.GeneralPurpose.{IsBytes}

pub bytes_nil : IsBytes []
bytes_nil i = omega arith

bytes_cons : (x : ℕ) (xs : List ℕ) → x < 256 → IsBytes xs → IsBytes (x ∷ xs)
bytes_cons x xs here later zero = here
bytes_cons x xs here later (suc i) = later i

bytes_append : (xs ys : List ℕ) → IsBytes xs → IsBytes ys → IsBytes (xs ++ ys)
bytes_append [] ys left right = right
bytes_append (x ∷ xs) ys left right = bytes_cons x (xs ++ ys) (left zero) (bytes_append xs ys (λ i. left (suc i)) right)

follower : (bits : ℕ) → next bits < 256
follower bits = omega arith

within : (c : ℕ) → scalar c ≡ true → c < 1114112
within c ok = elim (scalar_cases c ok) [ inl low ↦ omega (arith, low) | inr high ↦ high.1 ]

bytes_encode : (c : ℕ) → scalar c ≡ true → IsBytes (encode c)
unfolding encode
bytes_encode c ok = pick (nat_lt c 128) (nat_lt c 2048) (nat_lt c 65536) refl refl refl
  where
    pick : (x y z : Bool) → nat_lt c 128 ≡ x → nat_lt c 2048 ≡ y → nat_lt c 65536 ≡ z
        → IsBytes (cond x (c ∷ []) (cond y ((192 + c / 64) ∷ next c ∷ []) (cond z ((224 + c / 4096) ∷ next (c / 64) ∷ next c ∷ []) ((240 + c / 262144) ∷ next (c / 4096) ∷ next (c / 64) ∷ next c ∷ []))))
    pick true y z ex ey ez = bytes_cons c [] (omega (arith, ltb-true c 128 ex)) bytes_nil
    pick false true z ex ey ez =
        bytes_cons (192 + c / 64) (next c ∷ []) (omega (arith, ltb-true c 2048 ey)) (bytes_cons (next c) [] (follower c) bytes_nil)
    pick false false true ex ey ez =
        bytes_cons (224 + c / 4096) (next (c / 64) ∷ next c ∷ []) (omega (arith, ltb-true c 65536 ez))
        (bytes_cons (next (c / 64)) (next c ∷ []) (follower (c / 64)) (bytes_cons (next c) [] (follower c) bytes_nil))
    pick false false false ex ey ez =
        bytes_cons (240 + c / 262144) (next (c / 4096) ∷ next (c / 64) ∷ next c ∷ []) (omega (arith, within c ok))
        (bytes_cons (next (c / 4096)) (next (c / 64) ∷ next c ∷ []) (follower (c / 4096))
        (bytes_cons (next (c / 64)) (next c ∷ []) (follower (c / 64)) (bytes_cons (next c) [] (follower c) bytes_nil)))

bytes_encodes : (cs : List ℕ) → scalars cs ≡ true → IsBytes (encodes cs)
bytes_encodes [] e = bytes_nil
bytes_encodes (c ∷ cs) e = let p = and_parts _ _ e in bytes_append (encode c) (encodes cs) (bytes_encode c p.0) (bytes_encodes cs p.1)

pub bytes_utf8 : (bytes : List ℕ) → IsUtf8 bytes → IsBytes bytes
bytes_utf8 bytes text = subst IsBytes text.1.1 (bytes_encodes text.0 text.1.0)
