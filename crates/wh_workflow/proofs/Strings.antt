-- Plain texts are JSON strings without escapes.
use Rattle.std.specs.Prelude.{◌≡◌, ℕ, suc, ◌-◌, ◌<◌, ◌≤◌, Bool, true, false, ◌&&◌, List, [], ◌∷◌, ◌++◌, length, get_or, take, drop, Option, Some, None, option_and_then, leb, codes, bytes_eq, refl, if◌then◌else◌}
use Rattle.std.specs.List.{list_all}
use Rattle.std.specs.Str.{is_utf8, IsUtf8, chars}
use Rattle.std.proofs.Common.{ap, ap₂, sym, subst, ◌∙◌, arith, append-nil, inl, inr}
use Rattle.std.proofs.Math.Seq.{drop-append_seam, take-append_seam}
use Rattle.std.proofs.lemmas.Bool.{and_parts, cases_lt, le-leb, leb-true}
use Rattle.std.proofs.lemmas.Bool.Decides.{nat_tests}
use Rattle.std.proofs.lemmas.List.{length-append, take-append-drop}
use Rattle.std.proofs.lemmas.List.Folds.{list_all-append}
use Rattle.std.proofs.lemmas.Slice.Eq.{bytes_eq-Decides}
use Rattle.std.proofs.lemmas.Str.{chars-encodes, encode_ascii, inside_one, is_utf8-from_IsUtf8, IsUtf8-from_is_utf8}
use lib.Utf8.{scalar, scalars, encode, encodes, scalar_cases}
use Rattle.wh_workflow.specs.PlainTexts.{is_plain, plain, after_quote, before_quote, quoted, plain_text, is_unescaped, string_of, IsUnescaped, TakesStrings}

both : (a b : Bool) → a ≡ true → b ≡ true → (a && b) ≡ true
both true b first second = second
both false b first second = first

-- a list of one byte that is a quotation mark
one_quote : (byte : ℕ) (rest : List ℕ) → bytes_eq (take 1 (byte ∷ rest)) (codes "\"") ≡ true → byte ≡ 34
one_quote byte rest is = let same : take 1 (byte ∷ rest) ≡ codes "\"" = (bytes_eq-Decides (take 1 (byte ∷ rest)) (codes "\"")).0 is in cc

-- the bytes after a quotation mark
prefix_is : (json inner : List ℕ) → after_quote json ≡ Some inner → json ≡ 34 ∷ inner
prefix_is [] inner is = cc
prefix_is (byte ∷ rest) inner is = by_test (bytes_eq (take 1 (byte ∷ rest)) (codes "\"")) refl is
  where
    by_test : (test : Bool) → bytes_eq (take 1 (byte ∷ rest)) (codes "\"") ≡ test
        → (if test then Some (drop 1 (byte ∷ rest)) else None) ≡ Some inner → byte ∷ rest ≡ 34 ∷ inner
    by_test true quote is = let first : byte ≡ 34 = one_quote byte rest quote in cc
    by_test false quote is = cc

prefix_gives : (inner : List ℕ) → after_quote (34 ∷ inner) ≡ Some inner
prefix_gives inner = refl

-- the bytes before a quotation mark at the end
suffix_is : (bytes inner : List ℕ) → before_quote bytes ≡ Some inner → bytes ≡ inner ++ 34 ∷ []
suffix_is bytes inner is = by_test (bytes_eq (drop (length bytes - 1) bytes) (codes "\"")) refl is
  where
    by_test : (test : Bool) → bytes_eq (drop (length bytes - 1) bytes) (codes "\"") ≡ test
        → (if test then Some (take (length bytes - 1) bytes) else None) ≡ Some inner → bytes ≡ inner ++ 34 ∷ []
    by_test true quote is =
        let last : drop (length bytes - 1) bytes ≡ 34 ∷ [] = (bytes_eq-Decides (drop (length bytes - 1) bytes) (codes "\"")).0 quote in
        let front : take (length bytes - 1) bytes ≡ inner = cc in
        let whole : take (length bytes - 1) bytes ++ drop (length bytes - 1) bytes ≡ bytes = take-append-drop (length bytes - 1) bytes in
        cc
    by_test false quote is = cc

suffix_gives : (inner : List ℕ) → before_quote (inner ++ 34 ∷ []) ≡ Some inner
suffix_gives inner =
    let bytes : List ℕ = inner ++ 34 ∷ [] in
    let place : length bytes - 1 ≡ length inner = omega (arith, length-append inner (34 ∷ [])) in
    let last : drop (length bytes - 1) bytes ≡ 34 ∷ [] = ap (λ n. drop n bytes) place ∙ drop-append_seam inner (34 ∷ []) in
    let front : take (length bytes - 1) bytes ≡ inner = ap (λ n. take n bytes) place ∙ take-append_seam inner (34 ∷ []) in
    let quote : bytes_eq (drop (length bytes - 1) bytes) (codes "\"") ≡ true =
    subst (λ one. bytes_eq one (codes "\"") ≡ true) (sym last) refl in
    ap (λ test. if test then Some (take (length bytes - 1) bytes) else None) quote ∙ ap (λ one. Some one) front

-- the bytes between two quotation marks
quoted_is : (json inner : List ℕ) → quoted json ≡ Some inner → json ≡ string_of inner
quoted_is json inner is = by_front (after_quote json) refl is
  where
    by_front : (front : Option (List ℕ)) → after_quote json ≡ front
        → option_and_then before_quote front ≡ Some inner → json ≡ string_of inner
    by_front None front is = cc
    by_front (Some bytes) front is =
        let first : json ≡ 34 ∷ bytes = prefix_is json bytes front in
        let second : bytes ≡ inner ++ 34 ∷ [] = suffix_is bytes inner is in cc

quoted_gives : (inner : List ℕ) → quoted (string_of inner) ≡ Some inner
quoted_gives inner = suffix_gives inner

-- a byte that is no ASCII is plain
plain_high : (list : List ℕ) → ((k : ℕ) → k < length list → 128 ≤ get_or list k 0) → list_all is_plain list ≡ true
plain_high [] high = refl
plain_high (byte ∷ rest) high =
    let big : 128 ≤ byte = high 0 (omega arith) in
    both (is_plain byte) (list_all is_plain rest) (grind (arith, nat_tests))
    (plain_high rest (λ k below. high (suc k) (omega arith)))

-- an ASCII character is plain if a JSON string may hold it unescaped
plain_low : (c : ℕ) → c < 128 → is_plain c ≡ is_unescaped c
plain_low c small = grind (arith, nat_tests)

unescaped_high : (c : ℕ) → 128 ≤ c → scalar c ≡ true → is_unescaped c ≡ true
unescaped_high c big ok = elim (scalar_cases c ok) [ inl low ↦ grind (arith, nat_tests) | inr high ↦ grind (arith, nat_tests) ]

-- the bytes of a character are plain if a JSON string may hold it unescaped
one_char : (c : ℕ) → scalar c ≡ true → list_all is_plain (encode c) ≡ is_unescaped c
one_char c ok = elim (cases_lt c 128) [
  | inl small ↦ rw (encode_ascii c small) (and_true (is_plain c) ∙ plain_low c small)
  | inr big ↦
      let high : (k : ℕ) → k < length (encode c) → 128 ≤ get_or (encode c) k 0 = λ k below. elim (cases_lt (get_or (encode c) k 0) 128) [
        | inl low ↦ absurd (omega (arith, inside_one c [] (encode c) k (sym (append-nil _)) below low))
        | inr h ↦ h
      ] in
      plain_high (encode c) high ∙ sym (unescaped_high c big ok)
]
  where
    and_true : (test : Bool) → (test && true) ≡ test
    and_true true = refl
    and_true false = refl

all_chars : (cs : List ℕ) → scalars cs ≡ true → list_all is_plain (encodes cs) ≡ list_all is_unescaped cs
all_chars [] ok = refl
all_chars (c ∷ cs) ok =
    let parts = and_parts (scalar c) (scalars cs) ok in
    list_all-append is_plain (encode c) (encodes cs)
    ∙ ap₂ (λ (a b : Bool). a && b) (one_char c parts.0) (all_chars cs parts.1)

text_plain : (text : List ℕ) → IsUtf8 text → list_all is_plain text ≡ list_all is_unescaped (chars text)
text_plain text utf8 =
    let cs : List ℕ = utf8.0 in
    let same : encodes cs ≡ text = utf8.1.1 in
    subst (λ bytes. list_all is_plain bytes ≡ list_all is_unescaped (chars bytes)) same
    (all_chars cs utf8.1.0 ∙ ap (list_all is_unescaped) (sym (chars-encodes cs utf8.1.0)))

plain_is : (inner text : List ℕ) → plain inner ≡ Some text → (inner ≡ text) × IsUnescaped text
plain_is inner text is = by_test (leb 1 (length inner) && list_all is_plain inner && is_utf8 inner) refl is
  where
    by_test : (test : Bool) → (leb 1 (length inner) && list_all is_plain inner && is_utf8 inner) ≡ test
        → (if test then Some inner else None) ≡ Some text → (inner ≡ text) × IsUnescaped text
    by_test true tests is =
        let same : inner ≡ text = cc in
        let outer = and_parts (leb 1 (length inner) && list_all is_plain inner) (is_utf8 inner) tests in
        let first = and_parts (leb 1 (length inner)) (list_all is_plain inner) outer.0 in
        let utf8 : IsUtf8 inner = IsUtf8-from_is_utf8 inner outer.1 in
        let found : IsUnescaped inner = (leb-true 1 (length inner) first.0, utf8, sym (text_plain inner utf8) ∙ first.1) in
        (same, subst IsUnescaped same found)
    by_test false tests is = cc

plain_gives : (text : List ℕ) → IsUnescaped text → plain text ≡ Some text
plain_gives text good =
    let tests : (leb 1 (length text) && list_all is_plain text && is_utf8 text) ≡ true =
    both (leb 1 (length text) && list_all is_plain text) (is_utf8 text)
    (both (leb 1 (length text)) (list_all is_plain text) (le-leb 1 (length text) good.0) (text_plain text good.1 ∙ good.2))
    (is_utf8-from_IsUtf8 text good.1) in
    ap (λ test. if test then Some text else None) tests

pub takes_strings : TakesStrings
takes_strings json text = (
  λ is. by_inner (quoted json) refl is,
  λ good. subst (λ bytes. plain_text bytes ≡ Some text) (sym good.0)
      (subst (λ inner. option_and_then plain inner ≡ Some text) (sym (quoted_gives text)) (plain_gives text good.1)),
)
  where
    by_inner : (inner : Option (List ℕ)) → quoted json ≡ inner
        → option_and_then plain inner ≡ Some text
        → (json ≡ string_of text) × IsUnescaped text
    by_inner None inner is = cc
    by_inner (Some bytes) inner is =
        let whole : json ≡ string_of bytes = quoted_is json bytes inner in
        let parts = plain_is bytes text is in
        (whole ∙ ap string_of parts.0, parts.1)
