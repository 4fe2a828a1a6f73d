use Rattle.std.proofs.Common.{◌≡◌, ℕ, Bool, true, false, cond, List, Ok, Err, refl, sym, ap}
use Rattle.std.specs.Str.{IsUtf8, is_utf8}
use Rattle.std.proofs.lemmas.Str.{is_utf8-from_IsUtf8, IsUtf8-from_is_utf8}
use Rattle.wh_rpc.specs.declared.bad_line.BadLine.TheVariants.{NotUtf8}
use Rattle.wh_rpc.specs.Responses.{text_of}
use Rattle.wh_rpc.proofs.response.text_in.Goals as goal

-- bytes in UTF-8 are a text
text_of-text : (bytes text : List ℕ) → text ≡ bytes → IsUtf8 bytes → text_of bytes ≡ Ok text
text_of-text bytes text same is = rw (is_utf8-from_IsUtf8 bytes is) (ap Ok (sym same))

-- other bytes are none
text_of-none : (bytes : List ℕ) → ¬ IsUtf8 bytes → text_of bytes ≡ Err NotUtf8
text_of-none bytes none = by_test (is_utf8 bytes) refl
  where
    by_test : (b : Bool) → is_utf8 bytes ≡ b → cond b (Ok bytes) (Err NotUtf8) ≡ Err NotUtf8
    by_test true e = absurd (none (IsUtf8-from_is_utf8 bytes e))
    by_test false e = refl

pub returns-in-Ok : goal.returns-in-Ok
returns-in-Ok c = text_of-text c.args.bytes.now c.in-Ok.text.now c.in-Ok.ensures.cases.0 c.in-Ok.ensures.cases.1

pub returns-in-Err : goal.returns-in-Err
returns-in-Err c = λ other. text_of-none c.args.bytes.now c.in-Err.ensures.cases.0
