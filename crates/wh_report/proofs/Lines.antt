-- The lines of records.
use Rattle.std.proofs.Common.{◌≡◌, ◌∙◌, ℕ, ◌+◌, Bool, cond, List, ◌∷◌, ◌++◌, ap, map, sym, codes, append_assoc, append-nil}
use Rattle.std.specs.Prelude.{count_by, length}
use Rattle.std.specs.List.{flat_map, list_all}
use Rattle.std.proofs.lemmas.Grind.{flat_map-append}
use Rattle.std.proofs.lemmas.List.{length-map}
use Rattle.std.proofs.lemmas.List.Folds.{flat_map-map, fold-map, list_all-map}
use Rattle.wh_tester.specs.Json.{following, open_line}
use Rattle.wh_tester.specs.Report.{good_count, line_text, report, totals_line}
use Rattle.wh_tester.specs.declared.line.Line.{Line}
use Rattle.wh_report.specs.declared.records.Record.{Record}
use Rattle.wh_file_faults.specs.DetailTexts.{detail_members, type_members}
use Rattle.wh_tester.specs.UnknownTypes.{unregistered_type}
use Rattle.wh_phrases.proofs.Lines.{open_and_closed as closed}
use Rattle.wh_phrases.specs.Json.{difference_members}
use Rattle.wh_phrases.specs.Texts.{value_object}
use Rattle.wh_phrases.specs.declared.comparing.OtherValue.{OtherValue}
use Rattle.wh_report.specs.Reports.{json_record, lines_of, members_after, object_after, warning_members}

-- how many values pass, of what is made of others
pub count_by_map : {A B : Type 0} (p : B → Bool) (f : A → B) (xs : List A) → count_by p (map f xs) ≡ count_by (λ x. p (f x)) xs
count_by_map p f xs = fold-map (λ n y. n + cond (p y) 1 0) f 0 xs

-- whether each passes, of what is made of others
pub all_of_map : {A B : Type 0} (p : B → Bool) (f : A → B) (xs : List A) → list_all p (map f xs) ≡ list_all (λ x. p (f x)) xs
all_of_map p f xs = list_all-map p f xs

-- members that follow one after another
both_follow : (first second : List (List ℕ)) → following first ++ following second ≡ following (first ++ second)
both_follow first second = sym (flat_map-append (λ member. codes "," ++ member) first second)

-- the member of warnings is written one part after another
pub warnings_written : (first : OtherValue) (others : List OtherValue) → ((codes ",\"warnings\":[" ++ value_object first) ++ flat_map object_after others) ++ codes "]" ≡ following (warning_members (first ∷ others))
warnings_written first others =
    let rest = flat_map object_after others in
    let own = codes "\"warnings\":[" ++ (value_object first ++ (rest ++ codes "]")) in
    append_assoc (codes ",\"warnings\":[" ++ value_object first) rest (codes "]")
    ∙ append_assoc (codes ",\"warnings\":[") (value_object first) (rest ++ codes "]")
    ∙ sym (append-nil (codes "," ++ own))

-- the members of a record are written one part after another
pub members_written : (own : Record) → (following (type_members (unregistered_type own.line.verdict)) ++ (following (detail_members own.detail) ++ following (difference_members own.difference))) ++ following (warning_members own.warnings) ≡ following (members_after own)
members_written own =
    let kind = type_members (unregistered_type own.line.verdict) in
    let first = detail_members own.detail in
    let second = difference_members own.difference in
    let third = warning_members own.warnings in
    append_assoc (following kind) (following first ++ following second) (following third)
    ∙ ap (λ l. following kind ++ l)
    (append_assoc (following first) (following second) (following third)
    ∙ ap (λ l. following first ++ l) (both_follow second third)
    ∙ both_follow first (second ++ third))
    ∙ both_follow kind (first ++ (second ++ third))

-- the object of a record is closed after them
pub object_written : (own : Record) → (open_line own.line ++ following (members_after own)) ++ codes "}\n" ≡ json_record own
object_written own =
    append_assoc (open_line own.line) (following (members_after own)) (codes "}\n") ∙ closed own.line (members_after own)

-- the texts of the lines, and then the totals
pub text_of_lines : (records : List Record) (good : ℕ) → good ≡ good_count (lines_of records) → flat_map (λ own. line_text own.line) records ++ totals_line (length records) good ≡ report (lines_of records)
unfolding report
text_of_lines records good counted =
    let line : Record → Line = λ own. own.line in
    let lines = map line records in
    ap (λ l. l ++ totals_line (length records) good) (sym (flat_map-map line_text line records))
    ∙ ap (λ n. flat_map line_text lines ++ totals_line n good) (sym (length-map records line))
    ∙ ap (λ n. flat_map line_text lines ++ totals_line (length lines) n) counted
