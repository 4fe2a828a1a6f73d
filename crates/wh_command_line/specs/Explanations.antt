-- The arguments of `explain`, and its plans.
use Rattle.std.specs.Prelude.{◌≡◌, ◌≢◌, ◌⊎◌, ℕ, Bool, true, false, List, [], codes, Option, Some, None}
use Rattle.clap.specs.Words.{Row, Text}
use Rattle.wh_console.specs.declared.format.Format.TheVariants as formats
use Rattle.wh_command_line.specs.Given.{GivesFlag, GivesFormat, GivesMore, GivesPaths, LacksText, MayGiveWithin, value_named}
use Rattle.wh_command_line.specs.declared.command_line.Plan.{Plan}
use Rattle.wh_command_line.specs.declared.command_line.Plan.TheVariants.{Explain, View, Page}
use Rattle.wh_command_line.specs.declared.explain.Choice.{Choice}
use Rattle.wh_command_line.specs.declared.explain.Choice.TheVariants.{Nothing, Tasks, Twice}
use Rattle.wh_console.specs.declared.selection.Selection.{Selection}
use Rattle.wh_console.specs.declared.selection.Selection.TheVariants.{All, Last, Around}

-- which tasks the flag for all tasks, the number of an event and a number of last tasks select; only one may be given
abbrev pub selected : (all : Bool) (around last : Option ℕ) → Choice
selected false None None = Nothing
selected true None None = Tasks All
selected false None (Some tasks) = Tasks (Last tasks)
selected false (Some event) None = Tasks (Around event)
selected _ _ _ = Twice

-- these tasks are selected, if any are
abbrev pub Selects : Choice → Option Selection → Type 0
Selects Nothing selection = selection ≡ None
Selects (Tasks tasks) selection = selection ≡ Some tasks
Selects Twice selection = ⊥

-- which tasks the rows select, given whether their flag for all tasks is set
abbrev pub selected_by : List Row → (all : Bool) → Choice
selected_by rows all = selected all (value_named rows (codes "around")) (value_named rows (codes "last"))

-- the rows select these tasks, if they select any
abbrev pub GivesSelection : List Row → Option Selection → Type 0
GivesSelection rows selection =
    (all : Bool) × GivesFlag (codes "all") rows all × Selects (selected_by rows all) selection

-- the rows give a malformed number, one that is not within its limits, or more than one selection
abbrev pub LacksSelection : List Row → Type 0
LacksSelection rows = ¬ (MayGiveWithin rows (codes "around") 1 9223372036854775807)
    ⊎ (¬ (MayGiveWithin rows (codes "last") 1 67108864)
    ⊎ ((all : Bool) × GivesFlag (codes "all") rows all × (selected_by rows all ≡ Twice)))

-- the rows say whether only what is recorded is shown, without replay
abbrev pub GivesRecorded : List Row → Bool → Type 0
GivesRecorded rows recorded = GivesFlag (codes "recorded") rows recorded

-- the rows say whether a page is written
abbrev pub GivesHtml : List Row → Bool → Type 0
GivesHtml rows html = GivesFlag (codes "html") rows html

-- the rows select some of the tasks, or all
abbrev pub SelectsTasks : List Row → Type 0
SelectsTasks rows = (given : Option Selection) × GivesSelection rows given × (given ≢ None)

-- there is one file, or no tasks are selected
abbrev pub MaySelect : (more : List Text) → Option Selection → Type 0
MaySelect more selection = (more ≡ []) ⊎ (selection ≡ None)

-- the plan is what the rows ask for: a page, what is recorded, or else an explanation of the replay
abbrev pub GivesExplanation : List Row → Plan → Type 0
GivesExplanation rows (Explain file selection format) = GivesPaths rows file [] × GivesFormat rows format
    × GivesRecorded rows false × GivesHtml rows false × GivesSelection rows selection
GivesExplanation rows (View file more selection format) = GivesPaths rows file more.items × GivesFormat rows format
    × GivesRecorded rows true × GivesHtml rows false × GivesSelection rows selection × MaySelect more.items selection
GivesExplanation rows (Page file only_recorded) = GivesPaths rows file [] × GivesFormat rows formats.Text
    × GivesRecorded rows only_recorded × GivesHtml rows true × GivesSelection rows None
GivesExplanation rows _ = ⊥

-- the rows ask for a page, together with another format, a selection of tasks or more files
abbrev pub MixesPage : List Row → Type 0
MixesPage rows = GivesHtml rows true × (GivesFormat rows formats.Json ⊎ (SelectsTasks rows ⊎ GivesMore rows))

-- the rows give more files, together with a selection of tasks or for an explanation of the replay
abbrev pub MixesFiles : List Row → Type 0
MixesFiles rows = GivesMore rows × (SelectsTasks rows ⊎ GivesRecorded rows false)

-- the rows lack a file, or their selection is malformed, or they ask for a page together with something else, or give
-- more files together with something else
abbrev pub LacksExplanation : List Row → Type 0
LacksExplanation rows =
    LacksText (codes "DIR") rows ⊎ (LacksSelection rows ⊎ (MixesPage rows ⊎ MixesFiles rows))
