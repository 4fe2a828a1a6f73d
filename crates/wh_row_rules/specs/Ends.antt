-- What the rules check of one command and of one row.
use Rattle.std.specs.Prelude.{ℕ, Bool, true, not, ◌&&◌, ◌||◌, List, bytes_eq, codes}
use Rattle.wh_rows.specs.declared.row.CommandTemplate.TheVariants as templates
use Rattle.wh_rows.specs.Tables.{CommandTemplate, Row}
use Rattle.wh_rows.specs.Rows.{closes, some_closes}
use Rattle.wh_rows.specs.Rules.{asks, is_range, hears_versions}

-- nothing may follow the command
abbrev pub stops : CommandTemplate → Bool
stops one = asks one || closes one

-- the command asks for a valid range of versions, or for none
abbrev pub range_is_one : CommandTemplate → Bool
range_is_one (templates.Ask _ least greatest) = is_range least greatest
range_is_one _ = true

-- the row is of another state, does not close the run, and leads to the state
abbrev pub leads_to : List ℕ → Row → Bool
leads_to name row = bytes_eq row.next name && (not (bytes_eq row.state name) && not (some_closes row.gives))

-- the row is for the state
abbrev pub is_at : Row → List ℕ → Bool
is_at row name = bytes_eq row.state (codes "any") || bytes_eq row.state name

-- in the state, rows without conditions are for each version that the command asks for, if it asks
abbrev pub is_heard : List ℕ → List Row → CommandTemplate → Bool
is_heard name rows (templates.Ask change least greatest) = hears_versions change least greatest name rows
is_heard name rows _ = true
