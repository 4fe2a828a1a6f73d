-- New runs of tables that get no table.
use Rattle.std.specs.Prelude.{ℕ, Bool, true, false, ◌&&◌, List, [], ◌∷◌, codes, Option, Some, None, if◌then◌else◌}
use Rattle.wh_rows.specs.declared.row.Source.{Source}
use Rattle.wh_rows.specs.declared.row.Source.TheVariants as sources
use Rattle.wh_rows.specs.declared.row.CommandTemplate.TheVariants as templates
use Rattle.wh_rows.specs.Tables.{CommandTemplate}
use Rattle.wh_table.specs.Program.{is_table}
use Rattle.wh_table_check.specs.declared.finding.TableFinding.{TableFinding}
use Rattle.wh_table_check.specs.Findings.{finding_at}

-- the source has no payload
abbrev pub is_nothing : Source → Bool
is_nothing sources.Nothing = true
is_nothing _ = false

-- a new run of this type takes its table from its first payload, and the source has none
abbrev pub lacks_table : List ℕ → Source → Bool
lacks_table kind source = is_nothing source && is_table kind

-- the words of the warning for a command that starts such a run, and the id of a child
abbrev pub tableless_words : CommandTemplate → Option (List ℕ × List ℕ)
tableless_words (templates.StartChild id workflow source) =
    if lacks_table workflow source then Some (codes "no source gives a table to the child ", id) else None
tableless_words (templates.ContinueAsNew workflow source) =
    if lacks_table workflow source then Some (codes "no source gives a table to the new run", []) else None
tableless_words _ = None

-- the finding at a row with these words and a name, if there are some
abbrev pub finding_said : ℕ → Option (List ℕ × List ℕ) → List TableFinding
finding_said number None = []
finding_said number (Some said) = finding_at number said.0 said.1 ∷ []

-- the warning for a command of the row of this number
abbrev pub tableless : ℕ → CommandTemplate → List TableFinding
tableless number template = finding_said number (tableless_words template)
