-- The names of inputs, and where they come from.
use Rattle.std.specs.Prelude.{◌≡◌, ◌≢◌, Bool, true, false, List, ℕ, ◌++◌, drop, codes, Option, Some, None, String, string_bytes, Vec}
use Rattle.std.specs.declared.alloc.Global.{Global}
use Rattle.wh_console.specs.declared.files.Input.{Input}
use Rattle.wh_console.specs.declared.files.InputFault.{InputFault}
use Rattle.wh_console.specs.declared.files.InputFault.TheVariants.{Unreadable, OutOfMemory}
use Rattle.wh_console.specs.declared.files.Origin.{Origin}
use Rattle.wh_console.specs.declared.files.Origin.TheVariants.{File, Entry, StandardInput}

-- the end of a path
abbrev pub IsEndOf : List ℕ → List ℕ → Type 0
IsEndOf path name = (start : ℕ) × (name ≡ drop start path)

-- the name of an input of this origin, by its path if that is reported
abbrev pub IsNameOf : Bool → Origin → List ℕ → Type 0
IsNameOf true (File path) name = name ≡ string_bytes path
IsNameOf false (File path) name = IsEndOf (string_bytes path) name
IsNameOf true (Entry dir entry) name = name ≡ string_bytes dir ++ (codes "/" ++ string_bytes entry)
IsNameOf false (Entry dir entry) name = name ≡ string_bytes entry
IsNameOf by_path (StandardInput bytes) name = name ≡ codes "-"

-- the input has that name
abbrev pub IsCalled : Bool → Input → Type 0
IsCalled by_path input = IsNameOf by_path input.origin (string_bytes input.name)

-- what the path names: its file, a file of its folder, or the standard input, which only `-` names
abbrev pub IsOf : List ℕ → Origin → Type 0
IsOf path (File own) = (string_bytes own ≡ path) × (path ≢ codes "-")
IsOf path (Entry dir entry) = string_bytes dir ≡ path
IsOf path (StandardInput bytes) = path ≡ codes "-"

-- the origin is no file of a folder
abbrev pub IsSingle : Origin → Type 0
IsSingle (Entry dir entry) = ⊥
IsSingle _ = Unit {0}

-- the bytes may be read from this origin: for the standard input the bytes that were read already, for a file any bytes
abbrev pub IsReadFrom : Origin → Vec ℕ Global → Type 0
IsReadFrom (StandardInput given) bytes = bytes ≡ given
IsReadFrom (File path) bytes = Unit {0}
IsReadFrom (Entry dir entry) bytes = Unit {0}

-- the fault is that of a path, and of the entry of the folder there, if one is named; or there was no memory
abbrev pub IsFaultAt : (path : String Global) → (entry : Option (String Global)) → InputFault → Type 0
IsFaultAt path entry (Unreadable own name reason) = (own ≡ path) × (name ≡ entry)
IsFaultAt path entry OutOfMemory = Unit {0}

-- why what is at this origin can't be read: the fault names it, or there was no memory; the standard input was read
-- already
abbrev pub IsUnreadFrom : Origin → InputFault → Type 0
IsUnreadFrom (StandardInput given) fault = ⊥
IsUnreadFrom (File path) fault = IsFaultAt path None fault
IsUnreadFrom (Entry dir entry) fault = IsFaultAt dir (Some entry) fault
