use Rattle.std.proofs.Common.{◌≡◌, Bool, true, false, List, ℕ, refl, ap, sym, ◌∙◌, None, Some, cond}
use Rattle.std.specs.Prelude.{IsUtf8, string_bytes}
use Rattle.std.specs.Str.{is_utf8}
use Rattle.std.proofs.lemmas.Str.{is_utf8-from_IsUtf8, IsUtf8-from_is_utf8, IsUtf8-string_bytes}
use Rattle.std.proofs.lemmas.Bool.{false≢true}
use Rattle.wh_markers.specs.Payloads.{if_text}
use Rattle.wh_markers.proofs.payloads.text_in.Goals as goal

if_text-some : (bytes : List ℕ) → IsUtf8 bytes → Some bytes ≡ if_text bytes
if_text-some bytes is = ap (λ b. cond b (Some bytes) None) (sym (is_utf8-from_IsUtf8 bytes is))

if_text-none : (bytes : List ℕ) → (IsUtf8 bytes → ⊥) → None ≡ if_text bytes
if_text-none bytes isnt = by_test (is_utf8 bytes) refl
  where
    by_test : (b : Bool) → is_utf8 bytes ≡ b → None ≡ cond b (Some bytes) None
    by_test true e = absurd (isnt (IsUtf8-from_is_utf8 bytes e))
    by_test false e = refl

pub returns-in-Ok : goal.returns-in-Ok
returns-in-Ok c =
    let same : string_bytes c.in-Ok.text ≡ c.args.bytes.items = ap (λ v. v.items) c.in-Ok.ensures.ok in
    ap Some c.new.ensures ∙ if_text-some (string_bytes c.in-Ok.text) (IsUtf8-string_bytes c.in-Ok.text) ∙ ap if_text same

pub returns : goal.returns
returns c = if_text-none c.args.bytes.items (λ is. false≢true (c.in-Err.ensures.succeeds is))
