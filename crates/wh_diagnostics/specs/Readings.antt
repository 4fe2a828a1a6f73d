-- What is read of inputs.
use Rattle.std.specs.Prelude.{◌≡◌, ℕ, List, Option, Some, None, String, string_bytes, Vec}
use Rattle.std.specs.declared.alloc.Global.{Global}
use Rattle.wh_file_faults.specs.Faults.{File}
use Rattle.wh_console.specs.declared.files.Input.{Input}
use Rattle.wh_console.specs.declared.files.Origin.{Origin}
use Rattle.wh_console.specs.declared.files.Origin.TheVariants.{Entry, File as FileAt, StandardInput}
use Rattle.wh_diagnostics.specs.declared.failures.Failure.{Failure}
use Rattle.wh_diagnostics.specs.declared.failures.Failure.TheVariants.{OutOfMemory, Unreadable}

-- which bytes there may be where an input comes from
abbrev pub Gives : Type 1
Gives = Origin → Vec ℕ Global → Type 0

-- an input as a file: by its name, with bytes that were given for where it comes from
pub record IsReadAs (gives : Gives) (input : Input) (file : File) : Type 0 where
  pub named : file.0 ≡ input.name
  pub bytes : gives input.origin file.1

-- the path of an origin, and the name in the folder there, if a folder was named; the standard input was read already
abbrev pub IsNamedAs : Origin → (dir : List ℕ) → (entry : Option (String Global)) → Type 0
IsNamedAs (StandardInput given) dir entry = ⊥
IsNamedAs (FileAt path) dir entry = (dir ≡ string_bytes path) × (entry ≡ None)
IsNamedAs (Entry folder name) dir entry = (dir ≡ string_bytes folder) × (entry ≡ Some name)

-- why a command stops at an input: that can't be read, and the failure names it, or there was no memory
abbrev pub IsUnread : Input → Failure → Type 0
IsUnread input (Unreadable dir entry reason) = IsNamedAs input.origin dir entry
IsUnread input OutOfMemory = Unit {0}
IsUnread input _ = ⊥
