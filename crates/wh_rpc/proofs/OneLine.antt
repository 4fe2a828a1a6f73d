-- A string in quotes is one line, and so are the words of JSON.
use Rattle.std.proofs.Common.{◌≡◌, ℕ, ◌≤◌, ◌<◌, ◌+◌, ◌/◌, ◌%◌, ◌==◌, ◌||◌, List, [], ◌∷◌, ◌++◌, Bool, true, false, cond, nat_lt, refl, arith, inl, inr}
use Rattle.std.specs.Char.{digit_char}
use Rattle.std.proofs.lemmas.Bool.{or_cases, ltb-true}
use Rattle.json.specs.Print.{escape_letter, escape_byte, escape, quoted, token_text}
use Rattle.json.specs.Token.{Token}
use Rattle.wh_rpc.specs.Requests.{IsOneLine}

pub plain-append : (xs ys : List ℕ) → IsOneLine xs → IsOneLine ys → IsOneLine (xs ++ ys)
plain-append [] ys p q = q
plain-append (x ∷ xs) ys p q = (p.0, plain-append xs ys p.1 q)

-- ---- digits

glyph : (b : Bool) (d : ℕ) → 32 ≤ cond b (48 + d) (87 + d)
glyph true d = omega arith
glyph false d = omega arith

-- ---- strings

letter : (a b c d e f : Bool) (x : ℕ) → (a ≡ true → 32 ≤ x) → let l = cond a x (cond b 98 (cond c 102 (cond d 110 (cond e 114 (cond f 116 0))))) in 0 < l → 32 ≤ l
letter true b c d e f x h some = h refl
letter false true c d e f x h some = omega arith
letter false false true d e f x h some = omega arith
letter false false false true e f x h some = omega arith
letter false false false false true f x h some = omega arith
letter false false false false false true x h some = omega arith
letter false false false false false false x h some = absurd (omega (arith, some))

at_quote : (x : ℕ) → ((x == 34) || (x == 92)) ≡ true → 32 ≤ x
at_quote x e = elim (or_cases (x == 34) (x == 92) e) [ inl h ↦ grind (arith, h) | inr h ↦ grind (arith, h) ]

byte : (a b : Bool) (l x : ℕ) → (a ≡ true → 32 ≤ l) → (b ≡ false → 32 ≤ x)
    → IsOneLine (cond a (92 ∷ l ∷ []) (cond b (92 ∷ 117 ∷ 48 ∷ 48 ∷ digit_char (x / 16) ∷ digit_char (x % 16) ∷ []) (x ∷ [])))
byte true b l x p q = (omega arith, (p refl, tt))
byte false true l x p q = (omega arith, (omega arith, (omega arith, (omega arith, (glyph (nat_lt (x / 16) 10) (x / 16), (glyph (nat_lt (x % 16) 10) (x % 16), tt))))))
byte false false l x p q = (q refl, tt)

plain-byte : (x : ℕ) → IsOneLine (escape_byte x)
unfolding escape_byte
plain-byte x =
    byte (nat_lt 0 (escape_letter x)) (nat_lt x 32) (escape_letter x) x
    (λ h. letter _ _ _ _ _ _ x (at_quote x) (ltb-true 0 (escape_letter x) h))
    (λ h. grind (arith, h))

plain-escape : (s : List ℕ) → IsOneLine (escape s)
plain-escape [] = tt
plain-escape (x ∷ xs) = plain-append (escape_byte x) (escape xs) (plain-byte x) (plain-escape xs)

pub plain-quoted : (s : List ℕ) → IsOneLine (quoted s)
plain-quoted s = (omega arith, plain-append (escape s) (34 ∷ []) (plain-escape s) (omega arith, tt))

pub plain-boolean : (b : Bool) → IsOneLine (token_text (Token.boolean b))
plain-boolean true = (omega arith, (omega arith, (omega arith, (omega arith, tt))))
plain-boolean false = (omega arith, (omega arith, (omega arith, (omega arith, (omega arith, tt)))))
