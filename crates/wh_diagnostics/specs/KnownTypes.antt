-- Which workflow types are registered, as it is reported if a file has another one.
use Rattle.std.specs.Prelude.{◌==◌, ◌&&◌, ℕ, List, [], ◌++◌, length, not, codes, Bool, if◌then◌else◌}
use Rattle.wh_diagnostics.specs.Diagnostics.{named_line}

-- `<name>: there is code for the workflow types <types>`, if a file has another one and `types` is not empty
abbrev pub known_types_text : (types : List ℕ) → (lacking : Bool) → List ℕ → List ℕ
known_types_text types lacking name =
    if lacking && not (length types == 0)
    then named_line (codes "there is code for the workflow types " ++ types) name else []
