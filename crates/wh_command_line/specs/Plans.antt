-- The plan of a command line.
use Rattle.std.specs.Prelude.{◌≡◌, ◌≢◌, ◌⊎◌, List, [], codes, Some, None}
use Rattle.clap.specs.Words.{IsAmong, Kinds, Row, Text, fault_of, subcommand_of}
use Rattle.clap.specs.declared.error.kind.ErrorKind.{ErrorKind}
use Rattle.clap.specs.declared.error.kind.ErrorKind.TheVariants.{DisplayHelp, DisplayVersion, OutOfMemory}
use Rattle.wh_command_line.specs.Explanations.{GivesExplanation, LacksExplanation}
use Rattle.wh_command_line.specs.Given.{GivesFlag, GivesFolder, GivesPaths, LacksText}
use Rattle.wh_command_line.specs.Lines.{program}
use Rattle.wh_command_line.specs.Options.{GivesFewSlots}
use Rattle.wh_command_line.specs.Queries.{GivesQuery, LacksQuery}
use Rattle.wh_command_line.specs.Replays.{GivesReplay}
use Rattle.wh_command_line.specs.Sizes.{GivesAllWithin, GivesNumbers}
use Rattle.wh_command_line.specs.Tables.{GivesCheck, GivesTrial, LacksCheck, LacksTrial}
use Rattle.wh_command_line.specs.Work.{GivesFewWorkSlots, GivesWork, LacksWork}
use Rattle.wh_command_line.specs.declared.command_line.Plan.{Plan}
use Rattle.wh_command_line.specs.declared.command_line.Plan.TheVariants.{Replay, Explain, View, Page, Query, Check, Picture, Try, Serve, Work, Help}

-- the plan is to print a text
abbrev pub IsHelp : Plan → Type 0
IsHelp (Help text) = Unit {0}
IsHelp _ = ⊥

-- the plan is what the subcommand of a name asks for with its rows
abbrev pub IsGiven : Text → List Row → Plan → Type 0
IsGiven name rows (Replay dir more options) =
    (name ≡ codes "replay") × GivesPaths rows dir more.items × GivesReplay rows options
IsGiven name rows (Explain file selection format) =
    (name ≡ codes "explain") × GivesExplanation rows (Explain file selection format)
IsGiven name rows (View file more selection format) =
    (name ≡ codes "explain") × GivesExplanation rows (View file more selection format)
IsGiven name rows (Page file only_recorded) = (name ≡ codes "explain") × GivesExplanation rows (Page file only_recorded)
IsGiven name rows (Check file more format) = (name ≡ codes "check") × GivesCheck rows (Check file more format)
IsGiven name rows (Picture file) = (name ≡ codes "check") × GivesCheck rows (Picture file)
IsGiven name rows (Try file more scenario format) =
    (name ≡ codes "try") × GivesTrial rows (Try file more scenario format)
IsGiven name rows (Query file query_type input format) =
    (name ≡ codes "query") × GivesQuery rows (Query file query_type input format)
IsGiven name rows (Serve dir options require_files progress) = (name ≡ codes "serve") × GivesFolder rows dir
    × GivesNumbers rows options.workers options.cache options.cache_events options.slots
    × GivesFlag (codes "require-files") rows require_files
    × GivesFlag (codes "progress") rows progress
IsGiven name rows (Work options) = (name ≡ codes "work") × GivesWork rows options
IsGiven name rows (Help text) = ⊥

-- clap returns a text that was asked for: the help or the version
abbrev pub IsRequest : ErrorKind → Type 0
IsRequest kind = (kind ≡ DisplayHelp) ⊎ (kind ≡ DisplayVersion)

-- clap returns a mistake in the words
abbrev pub IsMistake : ErrorKind → Type 0
IsMistake kind = (kind ≢ DisplayHelp) × (kind ≢ DisplayVersion) × (kind ≢ OutOfMemory)

-- the kinds of errors that clap may return for the words; none if it accepts them
unfoldable pub kinds_of : List Text → Kinds
kinds_of words = fault_of program words

-- clap accepts the words
abbrev pub IsRead : List Text → Type 0
IsRead words = kinds_of words ≡ []

-- clap accepts the words; they name the subcommand, and give it these rows
abbrev pub Names : List Text → Text → List Row → Type 0
Names words name rows = IsRead words × (subcommand_of program words ≡ Some (name, rows))

-- clap accepts the words, and they name no subcommand
abbrev pub NamesNone : List Text → Type 0
NamesNone words = IsRead words × (subcommand_of program words ≡ None)

-- the words ask for the help or the version
abbrev pub AsksText : List Text → Type 0
AsksText words = (kind : ErrorKind) × IsAmong kind (kinds_of words) × IsRequest kind

-- the words have a mistake that clap finds
abbrev pub HasMistake : List Text → Type 0
HasMistake words = (kind : ErrorKind) × IsAmong kind (kinds_of words) × IsMistake kind

-- the plan is to print a text that the words ask for, or what their subcommand asks for
abbrev pub IsAskedBy : List Text → Plan → Type 0
IsAskedBy words plan = (IsHelp plan × AsksText words)
    ⊎ ((name : Text) × (rows : List Row) × Names words name rows × IsGiven name rows plan)

-- the subcommand of a name is to serve or to work, and its rows give fewer slots than workers
abbrev pub AsksFewSlots : Text → List Row → Type 0
AsksFewSlots name rows = ((name ≡ codes "serve") × GivesFewSlots rows)
    ⊎ ((name ≡ codes "work") × GivesFewWorkSlots rows)

-- the words ask to serve or to work, with fewer slots than workers
abbrev pub HasFewSlots : List Text → Type 0
HasFewSlots words = (name : Text) × (rows : List Row) × Names words name rows × AsksFewSlots name rows

-- the rows give no folder to serve, or a number that is malformed or not within its limits
abbrev pub LacksService : List Row → Type 0
LacksService rows = LacksText (codes "DIR") rows ⊎ ¬ (GivesAllWithin rows)

-- the program has no subcommand of the name
abbrev pub IsNoCommand : Text → Type 0
IsNoCommand name = (name ≢ codes "replay") × (name ≢ codes "explain") × (name ≢ codes "query")
    × (name ≢ codes "check") × (name ≢ codes "try") × (name ≢ codes "serve") × (name ≢ codes "work")

-- the rows are invalid for the subcommand: they lack its path or name, or a number within its limits, or select tasks
-- twice, or ask for a page together with something else, or give more files than the rest of them allows
abbrev pub IsBadGiven : Text → List Row → Type 0
IsBadGiven name rows =
    ((name ≡ codes "replay") × LacksText (codes "DIR") rows)
    ⊎ (((name ≡ codes "explain") × LacksExplanation rows)
    ⊎ (((name ≡ codes "query") × LacksQuery rows)
    ⊎ (((name ≡ codes "check") × LacksCheck rows)
    ⊎ (((name ≡ codes "try") × LacksTrial rows)
    ⊎ (((name ≡ codes "serve") × LacksService rows)
    ⊎ (((name ≡ codes "work") × LacksWork rows) ⊎ IsNoCommand name))))))

-- the words are invalid: clap finds a mistake, or it accepts them and there is no subcommand, or the subcommand's rows
-- are invalid
abbrev pub IsBadLine : List Text → Type 0
IsBadLine words =
    HasMistake words ⊎ (NamesNone words
    ⊎ ((name : Text) × (rows : List Row) × Names words name rows × IsBadGiven name rows))
