-- What is found of the promises of a table.
use Rattle.std.specs.Prelude.{◌<◌, ◌≤◌, ◌≡◌, ℕ, List, [], ◌∷◌, length, Option, Some, None, option_and_then, codes}
use Rattle.std.specs.Result.{result_ok}
use Rattle.serde_json.specs.Data.{Data}
use Rattle.wh_json.specs.Fields.{field}
use Rattle.wh_json.specs.Events.{document_within}
use Rattle.wh_rows.specs.Tables.{Definition}
use Rattle.wh_row_rules.specs.Broken.{definition}
use Rattle.wh_row_rules.specs.declared.owned.OwnedTable.{OwnedTable}
use Rattle.wh_table_text.specs.declared.fault.TableFault.TheVariants as faults
use Rattle.wh_table_text.specs.Reading.{phrases_at}
use Rattle.wh_table_promises.specs.declared.promise.TablePromise.{TablePromise}
use Rattle.wh_table_promises.specs.Promised.{promise_of}
use Rattle.wh_table_promises.specs.Ways.{IsRight}
use Rattle.wh_promise_check.specs.Phrases.{promise_in}
use Rattle.wh_row_rules.specs.declared.promises.PhraseFinding.{PhraseFinding}
use Rattle.wh_row_rules.specs.declared.promises.PhraseFinding.TheVariants as outcomes
use Rattle.wh_row_rules.specs.declared.promises.PromiseFinding.{PromiseFinding}
use Rattle.wh_row_rules.specs.declared.promises.PromiseFindings.{PromiseFindings}
use Rattle.wh_row_rules.specs.declared.promises.PromiseFindings.TheVariants as found

-- the phrases of the member `promises` of a value in JSON
abbrev pub phrases_of : Data → Option (List (List ℕ))
phrases_of value = result_ok (phrases_at faults.NoRows (field (codes "promises") (Some value)))

-- those of a text, if it is JSON
abbrev pub phrases_in : List ℕ → Option (List (List ℕ))
phrases_in bytes = option_and_then phrases_of (result_ok (document_within bytes))

-- what is found of a promise is right; if there is none, that is found
abbrev pub IsOutcome : Definition → Option TablePromise → PhraseFinding → Type 0
IsOutcome table None outcomes.NoPromise = Unit {0}
IsOutcome table (Some promise) (outcomes.Decided verdict) = IsRight table (promise_of promise) verdict
IsOutcome table _ _ = ⊥

-- so of the promise that a phrase says
abbrev pub IsDecided : Definition → List ℕ → PhraseFinding → Type 0
IsDecided table phrase outcome = IsOutcome table (promise_in phrase) outcome

-- that, and which phrase it is
abbrev pub IsFound : Definition → List ℕ → PromiseFinding → Type 0
IsFound table phrase finding = (finding.phrase ≡ phrase) × IsDecided table phrase finding.outcome

-- so for each phrase, in their order
abbrev pub AreFound : Definition → List (List ℕ) → List PromiseFinding → Type 0
AreFound table [] [] = Unit {0}
AreFound table (phrase ∷ phrases) (finding ∷ list) = IsFound table phrase finding × AreFound table phrases list
AreFound table _ _ = ⊥

-- so for all phrases of a table, unless there are too many
abbrev pub AreDecided : Definition → Option (List (List ℕ)) → PromiseFindings → Type 0
AreDecided table None found.NoPhrases = Unit {0}
AreDecided table (Some phrases) found.TooMany = 50 < length phrases
AreDecided table (Some phrases) (found.Each list) = (length phrases ≤ 50) × AreFound table phrases list
AreDecided table _ _ = ⊥

-- what is found of the promises of a table, of which a value in JSON has the phrases; without a table there is none
abbrev pub AreFindingsOf : Option OwnedTable → Option Data → PromiseFindings → Type 0
AreFindingsOf None value findings = findings ≡ found.Each []
AreFindingsOf (Some table) value findings = AreDecided (definition table) (option_and_then phrases_of value) findings
