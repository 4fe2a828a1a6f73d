-- The report of records, and the status that it gives.
use Rattle.std.specs.Prelude.{ℕ, List, [], ◌∷◌, ◌++◌, map, codes, Bool, true, false, if◌then◌else◌}
use Rattle.std.specs.List.{flat_map, list_any}
use Rattle.wh_tester.specs.Json.{json_totals}
use Rattle.wh_tester.specs.UnknownTypes.{unregistered_type}
use Rattle.wh_tester.specs.Report.{all_good, report}
use Rattle.wh_tester.specs.declared.line.Line.{Line}
use Rattle.wh_phrases.specs.Json.{difference_members, json_line_with}
use Rattle.wh_file_faults.specs.DetailTexts.{detail_members, type_members}
use Rattle.wh_console.specs.declared.format.Format.{Format}
use Rattle.wh_console.specs.declared.format.Format.TheVariants.{Text, Json}
use Rattle.wh_console.specs.declared.replay_options.ReplayOptions.{ReplayOptions}
use Rattle.wh_phrases.specs.Texts.{value_object}
use Rattle.wh_phrases.specs.declared.comparing.OtherValue.{OtherValue}
use Rattle.wh_report.specs.declared.records.Record.{Record}

-- the object of a value that differs, after others
abbrev pub object_after : OtherValue → List ℕ
object_after value = codes "," ++ value_object value

-- the member of warnings: `"warnings":[WARNING,..]`, if there are any
abbrev pub warning_members : List OtherValue → List (List ℕ)
warning_members [] = []
warning_members (first ∷ others) =
    (codes "\"warnings\":[" ++ (value_object first ++ (flat_map object_after others ++ codes "]"))) ∷ []

-- what the object of a file has after the text of its fault
abbrev pub members_after : Record → List (List ℕ)
members_after own =
    type_members (unregistered_type own.line.verdict)
    ++ (detail_members own.detail ++ (difference_members own.difference ++ warning_members own.warnings))

-- the line of a file as JSON
abbrev pub json_record : Record → List ℕ
json_record own = json_line_with own.line (members_after own)

-- the lines of records
abbrev pub lines_of : List Record → List Line
lines_of records = map (λ own. own.line) records

-- the report, as text or as JSON
abbrev pub report_as : Format → List Record → List ℕ
report_as Json records = flat_map json_record records ++ json_totals (lines_of records)
report_as Text records = report (lines_of records)

-- the report that options ask for
abbrev pub report_of : ReplayOptions → List Record → List ℕ
report_of options records = report_as options.format records

-- values of a file differ
abbrev pub some_value : List OtherValue → Bool
some_value [] = false
some_value (first ∷ others) = true

-- 1 if a file is not good, and else 3 if values of one differ, and 0 if none do
abbrev pub records_status : List Record → ℕ
records_status records =
    if all_good (lines_of records) then (if list_any (λ own. some_value own.warnings) records then 3 else 0) else 1
