-- A printed text is one line, also where it has floats.
use Rattle.std.proofs.Common.{◌≡◌, ℕ, suc, ◌+◌, ◌≤◌, ◌==◌, ◌||◌, ◌&&◌, List, [], ◌∷◌, ◌++◌, Bool, true, false, cond, drop, Option, Some, None, option_and_then, refl, sym, subst, arith, inl, inr}
use Rattle.std.specs.Char.{is_ascii_digit}
use Rattle.std.specs.List.{prefix_len}
use Rattle.std.proofs.lemmas.Bool.{or_cases}
use Rattle.std.proofs.lemmas.Option.{none-some, same_Some}
use Rattle.json.specs.Lex.{tokens}
use Rattle.json.specs.Print.{ArePrintableOrBad, IsPrintableOrBad, IsNumber, begins, ends, print, print_from, quoted, separator, token_text}
use Rattle.json.specs.Token.{Token, begin_object, end_object, begin_array, end_array, key, string, number, boolean, null, bad}
use Rattle.json.specs.Word.{after_digits, after_exponent, after_fraction, after_minus, after_number, after_sign, after_whole, head}
use Rattle.json.proofs.Numbered.{ArePrintableOrBad-tokens}
use Rattle.wh_rpc.specs.Requests.{IsOneLine}
use Rattle.wh_rpc.proofs.OneLine.{plain-append, plain-boolean, plain-quoted}

-- ---- Numbers: where what follows a part of the text is one line, so is the whole

one_byte : (c : ℕ) → 32 ≤ c → (t : List ℕ) → (head t == c) ≡ true → IsOneLine (drop 1 t) → IsOneLine t
one_byte c high [] is rest = tt
one_byte c high (x ∷ xs) is rest = (grind (arith, is, high), rest)

minus : (t : List ℕ) → IsOneLine (after_minus t) → IsOneLine t
minus t rest = by (head t == 45) refl rest
  where
    by : (b : Bool) → (head t == 45) ≡ b → IsOneLine (cond b (drop 1 t) t) → IsOneLine t
    by true e rest = one_byte 45 (omega arith) t e rest
    by false e rest = rest

sign : (t : List ℕ) → IsOneLine (after_sign t) → IsOneLine t
sign t rest = by ((head t == 45) || (head t == 43)) refl rest
  where
    by : (b : Bool) → ((head t == 45) || (head t == 43)) ≡ b → IsOneLine (cond b (drop 1 t) t) → IsOneLine t
    by true e rest = elim (or_cases (head t == 45) (head t == 43) e) [ inl m ↦ one_byte 45 (omega arith) t m rest | inr p ↦ one_byte 43 (omega arith) t p rest ]
    by false e rest = rest

digits_step : (b : Bool) (x : ℕ) (xs : List ℕ) → is_ascii_digit x ≡ b → (IsOneLine (drop (prefix_len is_ascii_digit xs) xs) → IsOneLine xs)
    → IsOneLine (drop (cond b (1 + prefix_len is_ascii_digit xs) 0) (x ∷ xs)) → IsOneLine (x ∷ xs)
digits_step true x xs digit more rest =
    let k = prefix_len is_ascii_digit xs in
    let one : 1 + k ≡ suc k = omega arith in
    (grind (arith, digit), more (subst (λ n. IsOneLine (drop n (x ∷ xs))) one rest))
digits_step false x xs digit more rest = rest

all_digits : (t : List ℕ) → IsOneLine (drop (prefix_len is_ascii_digit t) t) → IsOneLine t
all_digits [] rest = tt
all_digits (x ∷ xs) rest = digits_step (is_ascii_digit x) x xs refl (all_digits xs) rest

digits : (t rest : List ℕ) → after_digits t ≡ Some rest → IsOneLine rest → IsOneLine t
digits t rest is line = by (prefix_len is_ascii_digit t == 0) is
  where
    by : (b : Bool) → cond b None (Some (drop (prefix_len is_ascii_digit t) t)) ≡ Some rest → IsOneLine t
    by true e = absurd (none-some rest e)
    by false e = all_digits t (subst IsOneLine (sym (same_Some (drop (prefix_len is_ascii_digit t) t) rest e)) line)

whole : (t rest : List ℕ) → after_whole t ≡ Some rest → IsOneLine rest → IsOneLine t
whole t rest is line = by (head t == 48) refl is
  where
    by : (b : Bool) → (head t == 48) ≡ b → cond b (Some (drop 1 t)) (after_digits t) ≡ Some rest → IsOneLine t
    by true zero e = one_byte 48 (omega arith) t zero (subst IsOneLine (sym (same_Some (drop 1 t) rest e)) line)
    by false other e = digits t rest e line

fraction : (t rest : List ℕ) → after_fraction t ≡ Some rest → IsOneLine rest → IsOneLine t
fraction t rest is line = by (head t == 46) refl is
  where
    by : (b : Bool) → (head t == 46) ≡ b → cond b (after_digits (drop 1 t)) (Some t) ≡ Some rest → IsOneLine t
    by true dot e = one_byte 46 (omega arith) t dot (digits (drop 1 t) rest e line)
    by false other e = subst IsOneLine (sym (same_Some t rest e)) line

exponent : (t rest : List ℕ) → after_exponent t ≡ Some rest → IsOneLine rest → IsOneLine t
exponent t rest is line = by ((head t == 101) || (head t == 69)) refl is
  where
    by : (b : Bool) → ((head t == 101) || (head t == 69)) ≡ b → cond b (after_digits (after_sign (drop 1 t))) (Some t) ≡ Some rest → IsOneLine t
    by true letter e =
        let more = sign (drop 1 t) (digits (after_sign (drop 1 t)) rest e line) in
        elim (or_cases (head t == 101) (head t == 69) letter) [ inl l ↦ one_byte 101 (omega arith) t l more | inr u ↦ one_byte 69 (omega arith) t u more ]
    by false other e = subst IsOneLine (sym (same_Some t rest e)) line

plain-parts : (t : List ℕ) (w : Option (List ℕ)) → after_whole (after_minus t) ≡ w → option_and_then after_exponent (option_and_then after_fraction w) ≡ Some [] → IsOneLine t
plain-parts t None e is = absurd (none-some [] is)
plain-parts t (Some u) e is = minus t (whole (after_minus t) u e (by (after_fraction u) refl is))
  where
    by : (f : Option (List ℕ)) → after_fraction u ≡ f → option_and_then after_exponent f ≡ Some [] → IsOneLine u
    by None g is = absurd (none-some [] is)
    by (Some v) g is = fraction u v g (exponent v [] is tt)

plain-IsNumber : (s : List ℕ) → IsNumber s → IsOneLine s
unfolding after_number
plain-IsNumber s is = plain-parts s (after_whole (after_minus s)) refl is

-- ---- Tokens

plain-token : (t : Token) → IsPrintableOrBad t → IsOneLine (token_text t)
plain-token begin_object is = (omega arith, tt)
plain-token end_object is = (omega arith, tt)
plain-token begin_array is = (omega arith, tt)
plain-token end_array is = (omega arith, tt)
plain-token (key s) is = plain-append (quoted s) (58 ∷ []) (plain-quoted s) (omega arith, tt)
plain-token (string s) is = plain-quoted s
plain-token (number s) is = plain-IsNumber s is
plain-token (boolean b) is = plain-boolean b
plain-token null is = (omega arith, (omega arith, (omega arith, (omega arith, tt))))
plain-token bad is = tt

plain-separator : (after_value : Bool) (t : Token) → IsOneLine (separator after_value t)
plain-separator after_value t = by (after_value && begins t)
  where
    by : (b : Bool) → IsOneLine (cond b (44 ∷ []) [])
    by true = (omega arith, tt)
    by false = tt

plain-print : (after_value : Bool) (ts : List Token) → ArePrintableOrBad ts → IsOneLine (print_from after_value ts)
unfolding print_from
plain-print after_value [] are = tt
plain-print after_value (t ∷ ts) are =
    plain-append (separator after_value t) (token_text t ++ print_from (ends t) ts) (plain-separator after_value t)
    (plain-append (token_text t) (print_from (ends t) ts) (plain-token t are.0) (plain-print (ends t) ts are.1))

-- a text that is printed from its own tokens is one line
pub printed_is_one_line : (text : List ℕ) → text ≡ print (tokens text) → IsOneLine text
printed_is_one_line text is = subst IsOneLine (sym is) (plain-print false (tokens text) (ArePrintableOrBad-tokens text))
