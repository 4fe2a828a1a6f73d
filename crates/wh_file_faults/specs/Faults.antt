-- Files, and those that are not JSON.
use Rattle.std.specs.Prelude.{◌≡◌, ℕ, List, Err, String, Vec}
use Rattle.std.specs.declared.alloc.Global.{Global}
use Rattle.wh_json.specs.Events.{document_within}
use Rattle.wh_json.specs.declared.fault.ReadFault.TheVariants.{BadJson}

-- a file: its name, and its bytes
abbrev pub File : Type 0
File = String Global × Vec ℕ Global

-- the bytes of a file that is not too long are not JSON
abbrev pub IsNotJson : List ℕ → Type 0
IsNotJson bytes = document_within bytes ≡ Err BadJson
