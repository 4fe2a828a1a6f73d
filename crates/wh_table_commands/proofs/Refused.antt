-- Why an input is no text.
use Rattle.std.proofs.Common.{◌≡◌, ℕ, List, ap, subst}
use Rattle.std.specs.Prelude.{Bool, true, false, string_bytes}
use Rattle.std.specs.Str.{IsUtf8}
use Rattle.wh_console.specs.declared.files.Input.{Input}
use Rattle.wh_diagnostics.specs.Readings.{Gives, IsReadAs}
use Rattle.wh_diagnostics.specs.declared.failures.Failure.TheVariants.{NotText}
use Rattle.wh_file_faults.specs.Faults.{File}
use Rattle.wh_table_commands.specs.Scenarios.{IsNoText}

abbrev IsFalse : Bool → Type 0
IsFalse false = Unit {0}
IsFalse true = ⊥

-- an input is no text
pub no_text : (gives : Gives) (input : Input) (file : File) (name : List ℕ)
    → IsReadAs gives input file → (IsUtf8 file.1.items → false ≡ true) → name ≡ string_bytes file.0
    → IsNoText gives input (NotText name)
no_text gives input file name read bad named =
    record { file = file; read = read; bad = λ valid. subst IsFalse (bad valid) tt; is = ap NotText named }
