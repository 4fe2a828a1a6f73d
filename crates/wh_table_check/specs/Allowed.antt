-- Warnings that a table allows.
use Rattle.std.specs.Prelude.{ℕ, Bool, not, List, [], ◌∷◌, ◌++◌, length, ltb, filter, bytes_eq, codes, decimal, Option, Some, None, option_and_then, if◌then◌else◌}
use Rattle.std.specs.List.{list_any, flat_map}
use Rattle.std.specs.Result.{result_ok}
use Rattle.serde_json.specs.Data.{Data}
use Rattle.wh_json.specs.Fields.{field}
use Rattle.wh_table_text.specs.declared.fault.TableFault.TheVariants as faults
use Rattle.wh_table_text.specs.Reading.{phrases_at}
use Rattle.wh_table_check.specs.declared.finding.TableFinding.{TableFinding}
use Rattle.wh_table_check.specs.Findings.{finding_about}

-- the texts, unless there are more than 50
abbrev pub up_to_most : List (List ℕ) → Option (List (List ℕ))
up_to_most texts = if ltb 50 (length texts) then None else Some texts

-- the texts of the member `allow` of a value in JSON
abbrev pub allowed_texts : Option Data → Option (List (List ℕ))
allowed_texts value = option_and_then up_to_most (result_ok (phrases_at faults.NoRows (field (codes "allow") value)))

-- what the text of a finding begins with
abbrev pub place_words : Option ℕ → List ℕ
place_words None = []
place_words (Some row) = codes "row " ++ (decimal row ++ codes ": ")

-- the finding is worded so, in whichever row
abbrev pub has_text : List ℕ → TableFinding → Bool
has_text text found = bytes_eq found.text (place_words found.row ++ text)

-- one of the texts allows the finding
abbrev pub is_allowed : List (List ℕ) → TableFinding → Bool
is_allowed texts found = list_any (λ text. has_text text found) texts

-- no finding is worded so
abbrev pub is_stale : List TableFinding → List ℕ → Bool
is_stale all text = not (list_any (has_text text) all)

-- the warning for a text that allows none of the findings
abbrev pub stale_finding : List TableFinding → List ℕ → List TableFinding
stale_finding all text =
    if is_stale all text then finding_about (codes "there is no warning to allow: ") text ∷ [] else []

-- those for all texts
abbrev pub stale_findings : List TableFinding → List (List ℕ) → List TableFinding
stale_findings all texts = flat_map (stale_finding all) texts

-- the findings that no text allows
abbrev pub not_allowed : List (List ℕ) → List TableFinding → List TableFinding
not_allowed texts all = filter (λ found. not (is_allowed texts found)) all

-- those, and the warnings for texts that allow none
abbrev pub allowing : List (List ℕ) → List TableFinding → List TableFinding
allowing texts all = not_allowed texts all ++ stale_findings all texts

-- all findings, and that none can be allowed
abbrev pub allowing_none : List TableFinding → List TableFinding
allowing_none all = all ++ finding_about (codes "allow is neither a text nor a list of at most 50 texts") [] ∷ []

-- those that the table does not allow, by the texts that it has
abbrev pub after_allowing : Option (List (List ℕ)) → List TableFinding → List TableFinding
after_allowing (Some texts) all = allowing texts all
after_allowing None all = allowing_none all
