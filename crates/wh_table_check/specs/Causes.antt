-- Faults of a table as findings, without those that may follow from an earlier one.
use Rattle.std.specs.Prelude.{ℕ, ◌-◌, Bool, true, false, ◌||◌, List, [], ◌∷◌, take, bytes_eq, codes, Option, Some, None, option_and_then, if◌then◌else◌}
use Rattle.serde_json.specs.Data.{Data}
use Rattle.serde_json.specs.Find.{at}
use Rattle.wh_json.specs.Fields.{field, text_of}
use Rattle.wh_row_rules.specs.declared.fault.BrokenRule.TheVariants as broken
use Rattle.wh_table_text.specs.declared.fault.TableFault.{TableFault}
use Rattle.wh_table_text.specs.declared.fault.TableFault.TheVariants as faults
use Rattle.wh_table_text.specs.declared.fault.RowFault.TheVariants as rules
use Rattle.wh_table_text.specs.Numbered.{numbered}
use Rattle.wh_table_check.specs.declared.finding.TableFinding.{TableFinding}
use Rattle.wh_table_check.specs.Findings.{fault_finding}

-- the row of which the fault says that no row leads to its state
abbrev pub unreached_row : TableFault → Option ℕ
unreached_row (faults.InRow row (rules.Breaks broken.NeverReached)) = Some row
unreached_row _ = None

-- the fault says that no row is for the state that a row leads to
abbrev pub leads_nowhere : TableFault → Bool
leads_nowhere (faults.InRow row (rules.Breaks broken.LeadsNowhere)) = true
leads_nowhere _ = false

-- the state of the row of this number in a value in JSON, empty if there is none
abbrev pub row_state : Option Data → ℕ → List ℕ
row_state value row = text_of (option_and_then (at 0) (option_and_then (at (row - 1)) (field (codes "rows") value)))

-- the row is for this state, if there is one
abbrev pub is_of_state : Option Data → List ℕ → Option ℕ → Bool
is_of_state value state None = false
is_of_state value state (Some row) = bytes_eq (row_state value row) state

-- the fault says that no row leads to this state
abbrev pub is_unreached : Option Data → List ℕ → TableFault → Bool
is_unreached value state fault = is_of_state value state (unreached_row fault)

-- an earlier fault may be why no row leads to this state: a row leads nowhere, as by a misspelt state, or it says the same
abbrev pub explains : Option Data → List ℕ → TableFault → Bool
explains value state fault = leads_nowhere fault || is_unreached value state fault

-- one of the earlier faults may be
abbrev pub is_explained : Option Data → List ℕ → List TableFault → Bool
is_explained value state [] = false
is_explained value state (fault ∷ earlier) = explains value state fault || is_explained value state earlier

-- so for the state of a row
abbrev pub follows_row : Option Data → List TableFault → Option ℕ → Bool
follows_row value earlier None = false
follows_row value earlier (Some row) = is_explained value (row_state value row) earlier

-- a fault may follow from one of the earlier ones
abbrev pub follows : Option Data → List TableFault → TableFault → Bool
follows value earlier fault = follows_row value earlier (unreached_row fault)

-- the fault at a place as a finding, unless it may follow from one before it
abbrev pub finding_at_place : Option Data → List TableFault → ℕ → TableFault → List TableFinding
finding_at_place value list place fault = if follows value (take place list) fault then [] else fault_finding fault ∷ []

-- the findings for the faults of a table with this value in JSON
abbrev pub fault_findings : Option Data → List TableFault → List TableFinding
fault_findings value list = numbered (finding_at_place value list) 0 list
