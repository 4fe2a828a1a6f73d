-- Bytes are turned into text from their front, run by run.
use Rattle.std.proofs.Common.{◌≡◌, ◌∙◌, ℕ, List, [], ◌∷◌, ◌++◌, length, drop, replicate, refl, sym, ap, subst, arith}
use Rattle.std.proofs.lemmas.List.{append-nil, append_assoc}
use Rattle.std.specs.Prelude.{String, string_bytes}
use Rattle.std.specs.List.{flat_map}
use Rattle.std.specs.Str.{IsUtf8}
use Rattle.std.specs.declared.alloc.Global.{Global}
use Rattle.std.specs.Str.Lossy.{utf8_invalid_len, utf8_valid_len}
use Rattle.wh_console.specs.Names.{IsBadName, IsMarked, marked_run}

-- a run more stands before what is made of the bytes after it
front_run : (bytes valid invalid after text : List ℕ) → bytes ≡ valid ++ (invalid ++ after)
    → length valid ≡ utf8_valid_len bytes → length invalid ≡ utf8_invalid_len (drop (utf8_valid_len bytes) bytes)
    → IsMarked after text → IsMarked bytes (valid ++ (replicate (length invalid) 63 ++ text))
front_run bytes valid invalid after text parts valid_len invalid_len rest = record {
  runs = (valid, invalid) ∷ rest.runs;
  cut = (after, parts, valid_len, invalid_len, rest.cut);
  made = ap (λ t. valid ++ (replicate (length invalid) 63 ++ t)) rest.made
      ∙ sym (append_assoc valid (replicate (length invalid) 63) (flat_map marked_run rest.runs));
}

-- what is made of the bytes so far goes on by a run
pub marked_on : (whole made bytes valid invalid after next : List ℕ)
    → ((text : List ℕ) → IsMarked bytes text → IsMarked whole (made ++ text)) → bytes ≡ valid ++ (invalid ++ after)
    → length valid ≡ utf8_valid_len bytes → length invalid ≡ utf8_invalid_len (drop (utf8_valid_len bytes) bytes)
    → next ≡ (made ++ valid) ++ replicate (length invalid) 63
    → (text : List ℕ) → IsMarked after text → IsMarked whole (next ++ text)
marked_on whole made bytes valid invalid after next so_far parts valid_len invalid_len grown text rest =
    let marks = replicate (length invalid) 63 in
    let same : made ++ (valid ++ (marks ++ text)) ≡ next ++ text =
    sym (append_assoc made valid (marks ++ text)) ∙ sym (append_assoc (made ++ valid) marks text) ∙ ap (λ t. t ++ text) (sym grown) in
    subst (IsMarked whole) same (so_far _ (front_run bytes valid invalid after text parts valid_len invalid_len rest))

no_bytes : (bytes : List ℕ) → length bytes ≡ 0 → IsMarked bytes []
no_bytes [] none = record { runs = []; cut = refl; made = refl }
no_bytes (byte ∷ bytes) none = absurd (omega (arith, none))

-- where no bytes are left, all is made
pub marked_end : (whole made bytes : List ℕ)
    → ((text : List ℕ) → IsMarked bytes text → IsMarked whole (made ++ text)) → length bytes ≡ 0 → IsMarked whole made
marked_end whole made bytes so_far none = subst (IsMarked whole) (append-nil made) (so_far [] (no_bytes bytes none))

-- a name that is no text, by what is made of its bytes
pub bad_name : (bytes name : List ℕ) (shown : String Global) → bytes ≡ name → (IsUtf8 name → ⊥)
    → IsMarked bytes (string_bytes shown) → IsBadName shown
bad_name bytes name shown same no_text marked =
    record { bytes = bytes; no_text = λ text. no_text (subst IsUtf8 same text); marked = marked }
