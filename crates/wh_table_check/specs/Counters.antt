-- Counters of one name.
use Rattle.std.specs.Prelude.{ℕ, Bool, List, [], ◌∷◌, take, bytes_eq, codes, Option, Some, None, if◌then◌else◌}
use Rattle.std.specs.List.{list_any}
use Rattle.std.specs.Result.{result_ok}
use Rattle.serde_json.specs.Data.{Data}
use Rattle.wh_json.specs.Fields.{field}
use Rattle.wh_table_text.specs.declared.fault.TableFault.TheVariants as faults
use Rattle.wh_table_text.specs.Words.{word}
use Rattle.wh_table_text.specs.Numbered.{numbered}
use Rattle.wh_table_text.specs.Reading.{phrases_at}
use Rattle.wh_table_check.specs.declared.finding.TableFinding.{TableFinding}
use Rattle.wh_table_check.specs.Findings.{finding_about}

-- the texts, or none
abbrev pub or_none : Option (List (List ℕ)) → List (List ℕ)
or_none None = []
or_none (Some texts) = texts

-- the phrases of the member `counters` of a value in JSON
abbrev pub counter_phrases : Option Data → List (List ℕ)
counter_phrases value = or_none (result_ok (phrases_at faults.BadCounters (field (codes "counters") value)))

-- both phrases begin with the same word, which is the name of the counter
abbrev pub same_word : List ℕ → List ℕ → Bool
same_word one other = bytes_eq (word one) (word other)

-- one of the phrases has the same name
abbrev pub is_repeated : List (List ℕ) → List ℕ → Bool
is_repeated phrases phrase = list_any (same_word phrase) phrases

-- the warning for a counter that has the name of an earlier one; so many come before it
abbrev pub repeated : List (List ℕ) → ℕ → List ℕ → List TableFinding
repeated phrases place phrase =
    if is_repeated (take place phrases) phrase
    then finding_about (codes "two counters have the name ") (word phrase) ∷ [] else []

-- the warnings for the counters of a table with this value in JSON
abbrev pub counter_warnings : Option Data → List TableFinding
counter_warnings value = numbered (repeated (counter_phrases value)) 0 (counter_phrases value)
