use Rattle.std.proofs.Common.{◌≡◌, ℕ, Bool, true, false, List, refl}
use Rattle.std.specs.Str.{IsUtf8, is_utf8}
use Rattle.std.proofs.lemmas.Str.{is_utf8-from_IsUtf8, IsUtf8-from_is_utf8}
use Rattle.wh_workflow.proofs.json_strings.text_in.Goals as goal

-- bytes that are no text do not pass the test
is_utf8-none : (bytes : List ℕ) → ¬ IsUtf8 bytes → is_utf8 bytes ≡ false
is_utf8-none bytes none = by_test (is_utf8 bytes) refl
  where
    by_test : (b : Bool) → is_utf8 bytes ≡ b → b ≡ false
    by_test true e = absurd (none (IsUtf8-from_is_utf8 bytes e))
    by_test false e = refl

pub returns-in-Ok : goal.returns-in-Ok
returns-in-Ok c = (is_utf8-from_IsUtf8 _ c.in-Ok.ensures.cases.1, c.in-Ok.ensures.cases.0)

pub returns-in-Err : goal.returns-in-Err
returns-in-Err c = is_utf8-none _ c.in-Err.ensures.cases.0
