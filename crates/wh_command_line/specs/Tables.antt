-- The arguments of `check` and `try`, and their plans.
use Rattle.std.specs.Prelude.{◌≡◌, ◌⊎◌, ◌<◌, ◌||◌, Bool, true, false, List, [], ◌∷◌, length, bytes_eq, eqb, codes, Option, Some, None}
use Rattle.std.specs.List.{list_any, starts_with}
use Rattle.std.specs.Str.{trim}
use Rattle.clap.specs.Words.{Row, Text}
use Rattle.wh_console.specs.declared.format.Format.TheVariants as formats
use Rattle.wh_command_line.specs.Given.{GivesFlag, GivesFormat, GivesMore, GivesPaths, LacksText}
use Rattle.wh_command_line.specs.declared.command_line.Plan.{Plan}
use Rattle.wh_command_line.specs.declared.command_line.Plan.TheVariants.{Check, Picture, Try}

-- the plan is the check that the rows ask for, or a page of the one file if they ask for that
abbrev pub GivesCheck : List Row → Plan → Type 0
GivesCheck rows (Check file more format) =
    GivesPaths rows file more.items × GivesFormat rows format × GivesFlag (codes "html") rows false
GivesCheck rows (Picture file) =
    GivesPaths rows file [] × GivesFormat rows formats.Text × GivesFlag (codes "html") rows true
GivesCheck rows _ = ⊥

-- the rows ask for a page, together with another format or more files
abbrev pub MixesPicture : List Row → Type 0
MixesPicture rows = GivesFlag (codes "html") rows true × (GivesFormat rows formats.Json ⊎ GivesMore rows)

-- the rows lack a file, or ask for a page together with something else
abbrev pub LacksCheck : List Row → Type 0
LacksCheck rows = LacksText (codes "DIR") rows ⊎ MixesPicture rows

-- the words begin with the word `start`, which a blank, the end of a line, a semicolon or an arrow ends
abbrev pub begins_with_start : Text → Bool
begins_with_start words =
    bytes_eq words (codes "start") || starts_with eqb words (codes "start ") || starts_with eqb words (codes "start\n")
    || starts_with eqb words (codes "start;") || starts_with eqb words (codes "start=>")

-- the argument is a scenario, and no path: its first job is a start
abbrev pub is_scenario : Text → Bool
is_scenario argument = begins_with_start (trim argument)

-- the arguments after the first file are further files, and none of them a scenario, or only the scenario of that file
abbrev pub AreFilesOrScenario : (others more : List Text) → Option Text → Type 0
AreFilesOrScenario others more None = (more ≡ others) × (list_any is_scenario others ≡ false)
AreFilesOrScenario others more (Some scenario) =
    (more ≡ []) × (others ≡ scenario ∷ []) × (is_scenario scenario ≡ true)

-- one of the arguments after the first file is a scenario, and there are others
abbrev pub MixesScenario : (others : List Text) → Type 0
MixesScenario others = (list_any is_scenario others ≡ true) × (1 < length others)

-- the plan is to try the tables that the rows give, or the one table on the scenario behind it
abbrev pub GivesTrial : List Row → Plan → Type 0
GivesTrial rows (Try file more scenario format) = (others : List Text) × GivesPaths rows file others
    × AreFilesOrScenario others more.items scenario × GivesFormat rows format
GivesTrial rows _ = ⊥

-- the rows lack a file, or give a scenario together with more files
abbrev pub LacksTrial : List Row → Type 0
LacksTrial rows = LacksText (codes "DIR") rows
    ⊎ ((file : Text) × (others : List Text) × GivesPaths rows file others × MixesScenario others)
