-- The records of files.
use Rattle.std.specs.Prelude.{◌≡◌, ◌≢◌, ℕ, Bool, true, false, List, []}
use Rattle.std.specs.List.{AllZip}
use Rattle.wh_console.specs.declared.replay_options.ReplayOptions.{ReplayOptions}
use Rattle.wh_workflow.specs.Law.{Program}
use Rattle.wh_tester.specs.declared.line.Verdict.{Verdict}
use Rattle.wh_tester.specs.declared.line.Verdict.TheVariants.{OutOfMemory}
use Rattle.wh_tester.specs.Verdicts.{IsLineOf}
use Rattle.wh_explain.specs.Differences.{IsDifferenceIn}
use Rattle.wh_file_faults.specs.Details.{IsDetailBy}
use Rattle.wh_file_faults.specs.Faults.{File}
use Rattle.wh_report.specs.OtherValues.{AreOtherValues}
use Rattle.wh_phrases.specs.declared.comparing.OtherValue.{OtherValue}
use Rattle.wh_report.specs.declared.records.Record.{Record}

-- the warnings of a file with this verdict: if values are strict, those that differ, and else none
abbrev pub AreWarnings : {S : Type 0} → (strict : Bool) → Program S → (bytes : List ℕ) → Verdict → List OtherValue
    → Type 0
AreWarnings true program bytes verdict warnings = AreOtherValues program bytes verdict warnings
AreWarnings false program bytes verdict warnings = warnings ≡ []

-- the record of a file: its line, what its fault omits, the difference that its replay stops at, if there is one, and its
-- warnings; if memory ran out there is no detail and no warning, and nothing is known of a difference
pub record IsRecordOf {S : Type 0} (options : ReplayOptions) (program : Program S) (file : File)
    (own : Record) : Type 0 where
  pub line : IsLineOf program file own.line
  pub detail : IsDetailBy own.line.verdict file.1.items own.detail
  pub difference : own.line.verdict ≢ OutOfMemory → IsDifferenceIn program file.1.items own.difference
  pub warnings : own.line.verdict ≢ OutOfMemory
      → AreWarnings options.strict_values program file.1.items own.line.verdict own.warnings
  pub unwarned : own.line.verdict ≡ OutOfMemory → own.warnings ≡ []

-- the record of an input, which was read as a file
pub record IsRecordOfInput {S T : Type 0} (options : ReplayOptions) (program : Program S) (Reads : T → File → Type 0)
    (input : T) (own : Record) : Type 0 where
  pub file : File
  pub read : Reads input file
  pub found : IsRecordOf options program file own

-- the records of inputs, in their order, each of which was read as a file
pub record AreRecordsOf {S T : Type 0} (options : ReplayOptions) (program : Program S) (Reads : T → File → Type 0)
    (inputs : List T) (records : List Record) : Type 0 where
  pub files : List File
  pub read : AllZip Reads inputs files
  pub found : AllZip (IsRecordOf options program) files records
