-- The result of `parse` for the number of a version.
use Rattle.std.specs.Prelude.{◌≡◌, ℕ, ◌^◌, ◌<◌, ◌≤◌, ℤ, pos, neg_ℤ, Bool, true, false, ◌&&◌, List, length, drop, slice_index, nat_eq, leb, ltb, Option, Some, None, Result, Ok, Err, OkIff, refl, if◌then◌else◌}
use Rattle.std.specs.Result.{result_ok}
use Rattle.std.specs.Str.{all_ascii_digits}
use Rattle.std.specs.Str.Parse.{digits_value, ParsesSigned}
use Rattle.std.proofs.Common.{ap}
use Rattle.std.proofs.lemmas.Bool.{and_parts, eqb-true, eqb-false, leb-true, le-leb, ltb-true, lt-ltb}
use Rattle.std.proofs.lemmas.Str.Parse.{IsNumeralModel, numerals_by_value, tells_all_ascii_digits, parse_signed_minus, parse_signed_plus, parse_signed_plain}
use mir.Syntax.{w32}
use Rattle.wh_author_tools.specs.JobTexts.{is_number, plain_version, negative_version, version_of}

own : IsNumeralModel (λ digits. all_ascii_digits digits ≡ true) (digits_value 10)
own = numerals_by_value (λ digits. all_ascii_digits digits ≡ true) tells_all_ascii_digits

both : (a b : Bool) → a ≡ true → b ≡ true → (a && b) ≡ true
both true b first second = second
both false b first second = first

-- a test that holds exactly if a result is a number
tested : {E : Type 0} (result : Result ℤ E) (Q : Type 0) (number : ℤ) (test : Bool) → OkIff result Q number
    → (Q → test ≡ true) → (test ≡ true → Q) → result_ok result ≡ (if test then Some number else None)
tested (Ok found) Q number true is to from = ap Some is.1
tested (Ok found) Q number false is to from = let no : false ≡ true = to is.0 in cc
tested (Err error) Q number true is to from = absurd (is (from refl))
tested (Err error) Q number false is to from = refl

plain_is : {E : Type 0} (result : Result ℤ E) (digits : List ℕ)
    → OkIff result ((all_ascii_digits digits ≡ true) × (0 < length digits) × (digits_value 10 digits < 2 ^ 31)) (pos (digits_value 10 digits))
    → result_ok result ≡ plain_version digits
plain_is result digits is =
    tested result _ (pos (digits_value 10 digits)) (is_number digits && ltb (digits_value 10 digits) (2 ^ 31)) is
    (λ good. both (is_number digits) (ltb (digits_value 10 digits) (2 ^ 31))
    (both (all_ascii_digits digits) (leb 1 (length digits)) good.0 (le-leb 1 (length digits) good.1)) (lt-ltb (digits_value 10 digits) (2 ^ 31) good.2))
    (λ test. let outer = and_parts (is_number digits) (ltb (digits_value 10 digits) (2 ^ 31)) test in
    let inner = and_parts (all_ascii_digits digits) (leb 1 (length digits)) outer.0 in
    (inner.0, leb-true 1 (length digits) inner.1, ltb-true (digits_value 10 digits) (2 ^ 31) outer.1))

negative_is : {E : Type 0} (result : Result ℤ E) (digits : List ℕ)
    → OkIff result ((all_ascii_digits digits ≡ true) × (0 < length digits) × (digits_value 10 digits ≤ 2 ^ 31)) (neg_ℤ (pos (digits_value 10 digits)))
    → result_ok result ≡ negative_version digits
negative_is result digits is =
    tested result _ (neg_ℤ (pos (digits_value 10 digits))) (is_number digits && leb (digits_value 10 digits) (2 ^ 31)) is
    (λ good. both (is_number digits) (leb (digits_value 10 digits) (2 ^ 31))
    (both (all_ascii_digits digits) (leb 1 (length digits)) good.0 (le-leb 1 (length digits) good.1)) (le-leb (digits_value 10 digits) (2 ^ 31) good.2))
    (λ test. let outer = and_parts (is_number digits) (leb (digits_value 10 digits) (2 ^ 31)) test in
    let inner = and_parts (all_ascii_digits digits) (leb 1 (length digits)) outer.0 in
    (inner.0, leb-true 1 (length digits) inner.1, leb-true (digits_value 10 digits) (2 ^ 31) outer.1))

pub version_is : {E : Type 0} (number : List ℕ) (result : Result ℤ E) → ParsesSigned w32 10 number result
    → result_ok result ≡ version_of number
version_is number result parses = by_minus (nat_eq (slice_index number 0) 45) refl
  where
    plus : Option ℤ
    plus = if nat_eq (slice_index number 0) 43 then plain_version (drop 1 number) else plain_version number

    by_plus : (test : Bool) → nat_eq (slice_index number 0) 43 ≡ test → nat_eq (slice_index number 0) 45 ≡ false
        → result_ok result ≡ (if test then plain_version (drop 1 number) else plain_version number)
    by_plus true plus_sign other =
        plain_is result (drop 1 number) (parse_signed_plus own w32 number result parses (eqb-true (slice_index number 0) 43 plus_sign))
    by_plus false digit other =
        plain_is result number
        (parse_signed_plain own w32 number result parses (eqb-false (slice_index number 0) 43 digit) (eqb-false (slice_index number 0) 45 other))

    by_minus : (test : Bool) → nat_eq (slice_index number 0) 45 ≡ test
        → result_ok result ≡ (if test then negative_version (drop 1 number) else plus)
    by_minus true minus =
        negative_is result (drop 1 number) (parse_signed_minus own w32 number result parses (eqb-true (slice_index number 0) 45 minus))
    by_minus false other = by_plus (nat_eq (slice_index number 0) 43) refl other
