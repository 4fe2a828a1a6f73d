use Rattle.std.proofs.Common.{◌≡◌, ◌∙◌, ◌++◌, ℕ, List, Bool, true, false, cond, ap, refl, sym}
use Rattle.std.specs.Prelude.{IsUtf8, string_bytes}
use Rattle.std.specs.Str.{is_utf8}
use Rattle.std.proofs.lemmas.Str.{is_utf8-from_IsUtf8, IsUtf8-from_is_utf8}
use Rattle.base64.specs.Engines.{standard}
use Rattle.base64.specs.GeneralPurpose.{encode_of}
use Rattle.wh_phrases.specs.ValueSides.{bytes_text}
use Rattle.wh_phrases.proofs.value_sides.add_bytes.Goals as goal

-- bytes that are a text, and such as are none
text_is : (bytes : List ℕ) → IsUtf8 bytes → bytes ≡ bytes_text bytes
text_is bytes is = ap (λ b. cond b bytes (encode_of standard bytes)) (sym (is_utf8-from_IsUtf8 bytes is))

code_is : (bytes : List ℕ) → (IsUtf8 bytes → ⊥) → encode_of standard bytes ≡ bytes_text bytes
code_is bytes isnt = by_test (is_utf8 bytes) refl
  where
    by_test : (b : Bool) → is_utf8 bytes ≡ b → encode_of standard bytes ≡ cond b bytes (encode_of standard bytes)
    by_test true e = absurd (isnt (IsUtf8-from_is_utf8 bytes e))
    by_test false e = refl

pub returns-in_ok-push_str-in-Ok : goal.returns-in_ok-push_str-in-Ok
returns-in_ok-push_str-in-Ok c =
    let own = c.args.bytes.now in
    let cases = c.in-Ok.ensures.cases in
    c.in_ok-push_str-in-Ok.ensures.bytes
    ∙ ap (λ (l : List ℕ). string_bytes c.args.text.now ++ l) (cases.0 ∙ text_is own cases.1)

pub returns-in_ok-encode_string-in-Err : goal.returns-in_ok-encode_string-in-Err
returns-in_ok-encode_string-in-Err c =
    let own = c.args.bytes.now in
    let cases = c.in-Err.ensures.cases in
    c.in_ok-encode_string-in-Err.ensures.ok
    ∙ ap (λ (l : List ℕ). string_bytes c.args.text.now ++ l) (code_is own cases.0)
