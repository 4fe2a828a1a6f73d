-- What is reported of files beside their report.
use Rattle.std.specs.Prelude.{ℕ, List, [], ◌++◌, codes, Option, Some, None}
use Rattle.std.specs.List.{flat_map}
use Rattle.wh_explained_tasks.specs.declared.Pairing.{Pairing}
use Rattle.wh_file_faults.specs.DetailTexts.{omitted_lines}
use Rattle.wh_phrases.specs.Sides.{sides_text}
use Rattle.wh_phrases.specs.Texts.{value_text}
use Rattle.wh_phrases.specs.declared.comparing.OtherValue.{OtherValue}
use Rattle.wh_report.specs.declared.records.Record.{Record}
use Rattle.wh_tester.specs.Report.{shown}

-- `<name>: <file>: <the command sent and the event recorded>`
abbrev pub difference_line : (file : List ℕ) → Pairing → (name : List ℕ) → List ℕ
difference_line file pairing name =
    shown name ++ (codes ": " ++ (shown file ++ (codes ": " ++ (sides_text pairing ++ codes "\n"))))

-- that line, if the two differ
abbrev pub difference_lines : (file : List ℕ) → Option Pairing → (name : List ℕ) → List ℕ
difference_lines file None name = []
difference_lines file (Some pairing) name = difference_line file pairing name

-- `<name>: <file>: <a value that differs>`
abbrev pub warning_line : (file : List ℕ) → OtherValue → (name : List ℕ) → List ℕ
warning_line file value name =
    shown name ++ (codes ": " ++ (shown file ++ (codes ": " ++ (value_text value ++ codes "\n"))))

-- a line for each value that differs
abbrev pub warning_lines : (file : List ℕ) → List OtherValue → (name : List ℕ) → List ℕ
warning_lines file values name = flat_map (λ value. warning_line file value name) values

-- the lines of a file: its difference, what its line omits, and its warnings
abbrev pub record_lines : Record → List ℕ → List ℕ
record_lines own name =
    difference_lines own.line.name own.difference name
    ++ (omitted_lines own.line own.detail name ++ warning_lines own.line.name own.warnings name)

-- the lines of files, in their order
abbrev pub records_lines : List Record → List ℕ → List ℕ
records_lines records name = flat_map (λ own. record_lines own name) records
