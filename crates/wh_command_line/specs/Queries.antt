-- The arguments of `query`, and its plan.
use Rattle.std.specs.Prelude.{◌≡◌, ◌⊎◌, List, [], codes, unwrap_or}
use Rattle.clap.specs.Words.{Row, Text, all_of}
use Rattle.wh_command_line.specs.Given.{GivesFile, GivesFormat, GivesText, LacksText}
use Rattle.wh_command_line.specs.declared.command_line.Plan.{Plan}
use Rattle.wh_command_line.specs.declared.command_line.Plan.TheVariants.{Query}

-- the rows give these arguments of a query, none if there is no row of them
abbrev pub GivesInput : List Row → List Text → Type 0
GivesInput rows input = input ≡ unwrap_or (all_of (codes "JSON") rows) []

-- the plan is the query that the rows ask for
abbrev pub GivesQuery : List Row → Plan → Type 0
GivesQuery rows (Query file query_type input format) =
    GivesFile rows file × GivesText (codes "TYPE") rows query_type × GivesInput rows input.items
    × GivesFormat rows format
GivesQuery rows _ = ⊥

-- the rows lack the file or the query type
abbrev pub LacksQuery : List Row → Type 0
LacksQuery rows = LacksText (codes "FILE") rows ⊎ LacksText (codes "TYPE") rows
