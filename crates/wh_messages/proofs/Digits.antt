-- A number that is written as a text of digits is read as it was written.
use Rattle.std.proofs.Common.{◌≡◌, ℕ, ◌<◌, ◌≤◌, ◌^◌, length, decimal, true, Some, refl, arith, rules, lt-ltb, le-leb}
use Rattle.std.proofs.lemmas.Fmt.{decimal_nonempty, digits_decimal, digits_value-decimal, length-decimal-le}
use Rattle.std.proofs.lemmas.Str.Parse.{IsDigitsTest, IsNumeralModel, numerals_by_value}
use Rattle.std.specs.Char.{is_ascii_digit}
use Rattle.std.specs.List.{list_all}
use Rattle.std.specs.Str.Parse.{digits_value}
use Rattle.serde_json.specs.Data.{string}
use Rattle.wh_json.specs.Fields.{number_in, number_of}

digits_test : IsDigitsTest (λ ds. list_all is_ascii_digit ds ≡ true)
digits_test = search rules

model : IsNumeralModel (λ ds. list_all is_ascii_digit ds ≡ true) (digits_value 10)
model = numerals_by_value _ digits_test

text_back : (n : ℕ) → n < 2 ^ 63 → n < 2 ^ 64 → number_in (decimal n) ≡ Some n
unfolding number_in
text_back n small fits =
    let some : 0 < length (decimal n) = decimal_nonempty n fits in
    let short : length (decimal n) ≤ 19 = length-decimal-le 19 n (omega arith) (omega arith) fits in
    rw (
      lt-ltb 0 (length (decimal n)) some,
      le-leb (length (decimal n)) 19 short,
      digits_decimal model n fits,
      digits_value-decimal model n fits,
    ) refl

pub number_text_back : (n : ℕ) → n < 2 ^ 63 → number_of (string (decimal n)) ≡ Some n
unfolding number_of
number_text_back n small = rw (text_back n small (omega arith), lt-ltb n (2 ^ 63) small) refl
