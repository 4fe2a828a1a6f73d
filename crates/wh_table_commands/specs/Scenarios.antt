-- The scenario of a table.
use Rattle.std.specs.Prelude.{◌≡◌, ◌≢◌, ◌⊎◌, ℕ, List, ◌++◌, Option, Some, None, codes, string_bytes}
use Rattle.std.specs.Str.{IsUtf8}
use Rattle.wh_console.specs.declared.files.Input.{Input}
use Rattle.wh_console.specs.declared.files.Origin.{Origin}
use Rattle.wh_console.specs.declared.files.Origin.TheVariants.{File as SingleFile, Entry, StandardInput}
use Rattle.wh_diagnostics.specs.Failures.{IsReadFailure}
use Rattle.wh_diagnostics.specs.Readings.{Gives, IsReadAs}
use Rattle.wh_diagnostics.specs.declared.failures.Failure.{Failure}
use Rattle.wh_diagnostics.specs.declared.failures.Failure.TheVariants.{NotText, OutOfMemory}
use Rattle.wh_file_faults.specs.Faults.{File}

-- the path without `.json` at its end, or the path itself if it does not end that way
abbrev pub IsStem : (path stem : List ℕ) → Type 0
IsStem path stem = (path ≡ stem ++ codes ".json")
    ⊎ ((stem ≡ path) × ((front : List ℕ) → path ≢ front ++ codes ".json"))

-- the path with `.txt` instead of `.json` at its end, or with `.txt` added
pub record IsBeside (path other : List ℕ) : Type 0 where
  pub stem : List ℕ
  pub cut : IsStem path stem
  pub made : other ≡ stem ++ codes ".txt"

-- where the scenario beside a table comes from: a file in the same folder; that of the standard input is `-.txt`
abbrev pub IsOriginBeside : (table scenario : Origin) → Type 0
IsOriginBeside (SingleFile path) (SingleFile other) = IsBeside (string_bytes path) (string_bytes other)
IsOriginBeside (Entry dir name) (Entry own other) =
    (string_bytes own ≡ string_bytes dir) × IsBeside (string_bytes name) (string_bytes other)
IsOriginBeside (StandardInput bytes) (SingleFile other) = IsBeside (codes "-") (string_bytes other)
IsOriginBeside _ _ = ⊥

-- the input beside that of a table
pub record IsInputBeside (table scenario : Input) : Type 0 where
  pub called : IsBeside (string_bytes table.name) (string_bytes scenario.name)
  pub from : IsOriginBeside table.origin scenario.origin

-- the text is the content of an input
pub record IsTextOf (gives : Gives) (input : Input) (text : List ℕ) : Type 0 where
  pub file : File
  pub read : IsReadAs gives input file
  pub holds : text ≡ file.1.items

-- the scenario is the one that is given, or else the content of the input beside the table
abbrev pub IsScenario : Gives → (beside : Input) → Option (List ℕ) → List ℕ → Type 0
IsScenario gives beside (Some given) scenario = scenario ≡ given
IsScenario gives beside None scenario = IsTextOf gives beside scenario

-- an input was read, and is not UTF-8 text
pub record IsNoText (gives : Gives) (input : Input) (failure : Failure) : Type 0 where
  pub file : File
  pub read : IsReadAs gives input file
  pub bad : ¬ (IsUtf8 file.1.items)
  pub is : failure ≡ NotText (string_bytes file.0)

-- why there is no scenario: none is given, and the input beside the table can't be read or is no text; or there was no
-- memory
abbrev pub LacksScenario : Gives → (beside : Input) → Option (List ℕ) → Failure → Type 0
LacksScenario gives beside (Some given) failure = failure ≡ OutOfMemory
LacksScenario gives beside None failure = IsReadFailure failure ⊎ IsNoText gives beside failure
