-- A reader of HTML reads a text back.
use Rattle.std.proofs.Common.{◌≡◌, ◌∙◌, ◌<◌, ◌&&◌, not, ℕ, Bool, true, false, cond, Option, Some, None, List, [], ◌∷◌, ◌++◌, take, map, sym, refl, ap, arith}
use Rattle.std.proofs.Math.Utf8.{encode, encodes}
use Rattle.std.proofs.lemmas.Bool.{leb-true, ltb-true, eqb-true, and_from, not_from_false}
use Rattle.std.proofs.lemmas.Str.{encode_ascii}
use Rattle.std.specs.Prelude.{◌==◌, nat_le, nat_lt, codes}
use Rattle.std.specs.List.{flat_map, list_all}
use Rattle.std.specs.Str.{chars}
use Rattle.wh_html.specs.Escaping.{seen, reference_of, referred, escaped_char, escaped_first}
use Rattle.wh_html.specs.Laws.{read_from, read, TextsAreRead}
use Rattle.wh_html.proofs.Harmless.{all-weaker, beyond, encode-high}

-- a byte that begins no reference
abbrev is_plain : ℕ → Bool
is_plain b = not (b == 38)

-- one more byte that is read as it is
step : (b : ℕ) (bs rest : List ℕ) (x : Bool) → (list_all is_plain bs ≡ true → read (bs ++ rest) ≡ bs ++ read rest) → (not x && list_all is_plain bs) ≡ true → cond x [] (b ∷ []) ++ read_from (cond x (Some []) None) (bs ++ rest) ≡ b ∷ (bs ++ read rest)
step b bs rest true later e = cc
step b bs rest false later e = ap (λ ys. b ∷ ys) (later e)

-- bytes that begin no reference are read as they are
through : (xs rest : List ℕ) → list_all is_plain xs ≡ true → read (xs ++ rest) ≡ xs ++ read rest
through [] rest e = refl
through (b ∷ bs) rest e = step b bs rest (b == 38) (through bs rest) e

-- a character that is no `&` has none among its bytes
plain : (d : ℕ) → (d == 38) ≡ false → list_all is_plain (encode d) ≡ true
plain d e = by (nat_lt d 128) refl
  where
    high : (b : ℕ) → nat_le 128 b ≡ true → is_plain b ≡ true
    high b f = let h = leb-true 128 b f in not_from_false _ (beyond 38 b (omega arith))

    by : (x : Bool) → nat_lt d 128 ≡ x → list_all is_plain (encode d) ≡ true
    by true p = rw (encode_ascii d (ltb-true d 128 p)) (and_from _ _ (not_from_false _ e) refl)
    by false p = all-weaker (nat_le 128) is_plain high (encode d) (encode-high d p)

-- a reference is read as its character
known : (n d : ℕ) (rest : List ℕ) → n < 128 → d ≡ n → n ∷ rest ≡ encode d ++ rest
known n d rest low e = ap (λ xs. xs ++ rest) (sym (encode_ascii n low) ∙ ap encode (sym e))

one : (d : ℕ) (rest : List ℕ) → read (referred (reference_of d) d ++ rest) ≡ encode d ++ read rest
one d rest = by (d == 38) (d == 60) (d == 62) (d == 34) (d == 39) refl refl refl refl refl
  where
    by : (a b c f g : Bool) → (d == 38) ≡ a → (d == 60) ≡ b → (d == 62) ≡ c → (d == 34) ≡ f → (d == 39) ≡ g → read (referred (cond a (Some (codes "&amp;")) (cond b (Some (codes "&lt;")) (cond c (Some (codes "&gt;")) (cond f (Some (codes "&quot;")) (cond g (Some (codes "&#39;")) None))))) d ++ rest) ≡ encode d ++ read rest
    by true b c f g o p q r s = known 38 d (read rest) (omega arith) (eqb-true d 38 o)
    by false true c f g o p q r s = known 60 d (read rest) (omega arith) (eqb-true d 60 p)
    by false false true f g o p q r s = known 62 d (read rest) (omega arith) (eqb-true d 62 q)
    by false false false true g o p q r s = known 34 d (read rest) (omega arith) (eqb-true d 34 r)
    by false false false false true o p q r s = known 39 d (read rest) (omega arith) (eqb-true d 39 s)
    by false false false false false o p q r s = through (encode d) rest (plain d o)

all : (cs : List ℕ) → read (flat_map escaped_char cs) ≡ encodes (map seen cs)
all [] = refl
all (c ∷ cs) = one (seen c) (flat_map escaped_char cs) ∙ ap (λ ys. encode (seen c) ++ ys) (all cs)

pub texts_are_read : TextsAreRead
unfolding escaped_first
texts_are_read most text = all (take most (chars text))
