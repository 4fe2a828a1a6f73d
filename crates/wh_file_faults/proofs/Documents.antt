-- The value of a JSON text in UTF-8, and where there is none.
use Rattle.std.proofs.Common.{◌≡◌, Bool, true, false, List, ℕ, refl, None, Some, cond}
use Rattle.std.specs.Prelude.{IsSome, IsUtf8, Option, is_none}
use Rattle.std.specs.Str.{is_utf8}
use Rattle.std.proofs.lemmas.Str.{is_utf8-from_IsUtf8, IsUtf8-from_is_utf8}
use Rattle.serde_json.specs.Data.{Data}
use Rattle.serde_json.specs.Read.{read}
use Rattle.wh_json.specs.Fields.{document}

pub document-text : (bytes : List ℕ) (d : Data) → IsUtf8 bytes → read bytes ≡ Some d → document bytes ≡ Some d
unfolding document
document-text bytes d text value = rw (is_utf8-from_IsUtf8 bytes text) value

pub document-none : (bytes : List ℕ) → (IsUtf8 bytes → read bytes ≡ None) → document bytes ≡ None
unfolding document
document-none bytes none = by_test (is_utf8 bytes) refl
  where
    by_test : (b : Bool) → is_utf8 bytes ≡ b → cond b (read bytes) None ≡ None
    by_test true e = none (IsUtf8-from_is_utf8 bytes e)
    by_test false e = refl

-- a value is there where it is not missing
pub is_there : (value : Option Data) → false ≡ is_none value → IsSome value
is_there None h = absurd (cc)
is_there (Some d) h = refl
