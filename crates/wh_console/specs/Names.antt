-- Names of files, by their bytes.
use Rattle.std.specs.Prelude.{◌≡◌, ℕ, List, [], ◌∷◌, ◌++◌, length, drop, replicate, String, string_bytes}
use Rattle.std.specs.List.{flat_map}
use Rattle.std.specs.Str.{IsUtf8}
use Rattle.std.specs.Str.Lossy.{utf8_invalid_len, utf8_valid_len}
use Rattle.std.specs.declared.alloc.Global.{Global}

-- bytes cut into runs: each the longest text at the front, and the bytes after it that begin no character
abbrev pub AreRuns : List ℕ → List (List ℕ × List ℕ) → Type 0
AreRuns bytes [] = bytes ≡ []
AreRuns bytes (run ∷ runs) =
    (after : List ℕ)
    × (bytes ≡ run.0 ++ (run.1 ++ after))
    × (length run.0 ≡ utf8_valid_len bytes)
    × (length run.1 ≡ utf8_invalid_len (drop (utf8_valid_len bytes) bytes))
    × AreRuns after runs

-- the text of a run, and `?` for each byte after it
abbrev pub marked_run : List ℕ × List ℕ → List ℕ
marked_run run = run.0 ++ replicate (length run.1) 63

-- the bytes as text, with `?` for each byte that is not part of a character
pub record IsMarked (bytes text : List ℕ) : Type 0 where
  pub runs : List (List ℕ × List ℕ)
  pub cut : AreRuns bytes runs
  pub made : text ≡ flat_map marked_run runs

-- a name that is not UTF-8, as it is shown
pub record IsBadName (shown : String Global) : Type 0 where
  pub bytes : List ℕ
  pub no_text : IsUtf8 bytes → ⊥
  pub marked : IsMarked bytes (string_bytes shown)
