-- The report of tables in files.
use Rattle.std.specs.Prelude.{ℕ, List, [], ◌∷◌, ◌++◌, length, nat_eq, count_by, codes, decimal, Option, Some, None, if◌then◌else◌}
use Rattle.std.specs.List.{flat_map}
use Rattle.wh_console.specs.declared.format.Format.{Format}
use Rattle.wh_console.specs.declared.format.Format.TheVariants as formats
use Rattle.wh_tester.specs.Json.{escaped}
use Rattle.wh_tester.specs.Report.{shown}
use Rattle.wh_table_check.specs.declared.checking.TableCheck.{TableCheck}
use Rattle.wh_table_check.specs.declared.finding.TableFinding.{TableFinding}
use Rattle.wh_table_check.specs.Checks.{is_good}
use Rattle.wh_table_check.specs.PromiseTexts.{findings_text, promises_member}

-- ---- As text

-- the line of a finding, with these words before it
abbrev pub finding_line : List ℕ → List ℕ → TableFinding → List ℕ
finding_line name words found = shown name ++ (codes ": " ++ (words ++ (shown found.text ++ codes "\n")))

-- the lines of findings, with these words before each
abbrev pub finding_lines : List ℕ → List ℕ → List TableFinding → List ℕ
finding_lines name words list = flat_map (finding_line name words) list

-- the word for a table: `ok` if it is good, and else `fault`
abbrev pub verdict_word : TableCheck → List ℕ
verdict_word own = if is_good own then codes "ok" else codes "fault"

-- the line of a table that breaks no rule
abbrev pub rows_line : TableCheck → List ℕ
rows_line own = shown own.name ++ (codes ": " ++ (verdict_word own ++ (codes ", " ++
    (decimal own.rows ++ codes " rows\n"))))

-- the line of a table that breaks no rule, or the lines of the faults
abbrev pub verdict_lines : TableCheck → List ℕ
verdict_lines own = if nat_eq (length own.faults) 0 then rows_line own else finding_lines own.name [] own.faults

-- the lines of a file
abbrev pub checked_text : TableCheck → List ℕ
checked_text own =
    (verdict_lines own ++ finding_lines own.name (codes "warning, ") own.warnings)
    ++ findings_text own.name own.promises

-- ---- As JSON

-- the row of a finding, as the first member of an object
abbrev pub row_member : Option ℕ → List ℕ
row_member None = []
row_member (Some row) = codes "\"row\":" ++ (decimal row ++ codes ",")

-- the object of a finding
abbrev pub finding_object : TableFinding → List ℕ
finding_object found =
    codes "{" ++ (row_member found.row ++ (codes "\"text\":\"" ++ (escaped (shown found.text) ++ codes "\"}")))

-- the objects of findings, each with a comma before it
abbrev pub after_commas : List TableFinding → List ℕ
after_commas list = flat_map (λ found. 44 ∷ finding_object found) list

-- the objects of findings, separated by commas
abbrev pub finding_list : List TableFinding → List ℕ
finding_list [] = []
finding_list (first ∷ others) = finding_object first ++ after_commas others

-- the beginning of the object of a file: its name, its verdict, and its number of rows
abbrev pub object_head : TableCheck → List ℕ
object_head own =
    codes "{\"file\":\"" ++ (escaped (shown own.name) ++ (codes "\",\"verdict\":\"" ++ (verdict_word own
    ++ (codes "\",\"rows\":" ++ decimal own.rows))))

-- a list of findings, as a member after others
abbrev pub list_member : List ℕ → List TableFinding → List ℕ
list_member key list = codes ",\"" ++ (key ++ (codes "\":[" ++ (finding_list list ++ codes "]")))

-- the object of a file, on a line
abbrev pub checked_object : TableCheck → List ℕ
checked_object own =
    (((object_head own ++ list_member (codes "faults") own.faults) ++ list_member (codes "warnings") own.warnings)
    ++ promises_member own.promises) ++ codes "}\n"

-- ---- The report

-- a file's part of the report
abbrev pub checked_as : Format → TableCheck → List ℕ
checked_as formats.Text own = checked_text own
checked_as formats.Json own = checked_object own

-- the last line of the report: the number of files and of good tables
abbrev pub totals_as : Format → (files good : ℕ) → List ℕ
totals_as formats.Text files good = decimal files ++ (codes " files, " ++ (decimal good ++ codes " ok\n"))
totals_as formats.Json files good =
    codes "{\"files\":" ++ (decimal files ++ (codes ",\"ok\":" ++ (decimal good ++ codes "}\n")))

-- how many tables are good
abbrev pub good_count : List TableCheck → ℕ
good_count files = count_by is_good files

-- the report of files: a part for each, and their number
abbrev pub report_as : Format → List TableCheck → List ℕ
report_as format files = flat_map (checked_as format) files ++ totals_as format (length files) (good_count files)
