-- Arguments that several subcommands take, and the options of `serve` and `work`, with their limits.
use Rattle.std.specs.Prelude.{◌≢◌, ◌⊎◌, ℕ, ◌+◌, ◌≤◌, ◌<◌, List, [], ◌∷◌, codes, true, Option, Some, IfSome}
use Rattle.clap.specs.Words.{App, Row, Rule, Text, new_rule, with_rule}
use Rattle.clap.specs.declared.builder.ArgAction.TheVariants.{Append, Set, SetTrue}
use Rattle.wh_slots.specs.declared.sizes.Config.{Config}
use Rattle.wh_command_line.specs.Sizes.{AreWithinLimits, GivesNumbers, config_of}
use Rattle.wh_command_line.specs.declared.serve_options.ServeOptions.{ServeOptions}
use Rattle.wh_command_line.specs.declared.command_line.Plan.{Plan}
use Rattle.wh_command_line.specs.declared.command_line.Plan.TheVariants.{Serve, Work}
use Rattle.wh_command_line.specs.declared.work.WorkOptions.{WorkOptions}

-- an argument with a name for its value in the help
abbrev pub with_value_name : Rule → Rule
with_value_name rule = record rule { value_names = 1 }

-- an argument with a default value
abbrev pub with_default : Text → Rule → Rule
with_default otherwise rule = record rule { defaults = otherwise ∷ [] }

-- a required argument
abbrev pub as_needed : Rule → Rule
as_needed rule = record rule { required = true }

-- the option with a name, which takes a value
abbrev pub option : Text → Rule
option name = with_value_name (record (new_rule name) { long = Some name; action = Some Set })

-- the option with a name, which takes a value, and its default
abbrev pub option_or : Text → Text → Rule
option_or name otherwise = with_default otherwise (option name)

-- the flag with a name
abbrev pub flag : Text → Rule
flag name = record (new_rule name) { long = Some name; action = Some SetTrue }

-- the argument that names one or more paths
abbrev pub paths : Rule
paths = with_value_name (record (new_rule (codes "DIR")) { required = true; action = Some Append })

-- the flag with which it is a failure if there is no history
abbrev pub require_files : Rule
require_files = flag (codes "require-files")

-- the flag with which progress is reported also if the standard error is no terminal
abbrev pub progress : Rule
progress = flag (codes "progress")

-- a subcommand with the options added for the size of a host
abbrev pub with_sizes : App → App
with_sizes app = with_rule (with_rule (with_rule app (option_or (codes "cache") (codes "100")))
    (option_or (codes "cache-events") (codes "0"))) (option_or (codes "slots") (codes "100"))

-- a subcommand with the options added for the Task Queue, the namespace and the worker's identity
abbrev pub with_names : App → App
with_names app = with_rule (with_rule (with_rule app (as_needed (option (codes "task-queue"))))
    (option_or (codes "namespace") (codes "default"))) (option_or (codes "identity") (codes "wfhost"))

-- a subcommand with the options added that bound activities and waits
abbrev pub with_limits : App → App
with_limits app = with_rule (with_rule (with_rule (with_rule (with_rule app
    (option_or (codes "activity-workers") (codes "0"))) (option_or (codes "activity-timeout") (codes "60")))
    (option_or (codes "activity-attempts") (codes "1"))) (option (codes "policies")))
    (option_or (codes "sticky-timeout") (codes "10"))

-- a subcommand with the options added that say what is reported
abbrev pub with_reports : App → App
with_reports app = with_rule (with_rule (with_rule (with_rule app (flag (codes "verbose"))) (option (codes "stats")))
    (flag (codes "json"))) (option (codes "metrics"))

-- the rows give numbers within their limits, with fewer slots than workers
pub record GivesFewSlots (rows : List Row) : Type 0 where
  pub workers : ℕ
  pub cache : ℕ
  pub cache_events : ℕ
  pub slots : ℕ
  pub given : GivesNumbers rows workers cache cache_events slots
  pub limits : AreWithinLimits workers cache cache_events slots
  pub few : slots < workers

-- the size of a host for which options of `serve` ask
abbrev pub sizes_of : ServeOptions → Config
sizes_of options = config_of options.workers options.cache options.cache_events options.slots

-- so many seconds are a duration that can be sent to a server, and not 0
abbrev pub IsTime : ℕ → Type 0
IsTime seconds = (1 ≤ seconds) × (seconds ≤ 4294967295)

-- the bounds of activities and waits, and the time between reports of counts, are within their limits
pub record AreLimits (timeout attempts sticky : ℕ) (stats : Option ℕ) : Type 0 where
  pub timeout_is_time : IsTime timeout
  pub attempts_fit : attempts ≤ 65535
  pub sticky_is_time : IsTime sticky
  pub stats_is_time : IfSome stats IsTime

-- the options are within their limits; the size of the host counts both kinds of workers
pub record IsWithinWorkLimits (options : WorkOptions) : Type 0 where
  pub task_queue : options.task_queue ≢ []
  pub workers : 1 ≤ options.workers
  pub sizes : AreWithinLimits (options.workers + options.activity_workers)
      options.cache options.cache_events options.slots
  pub limits : AreLimits options.activity_timeout options.activity_attempts options.sticky_timeout options.stats

-- there are fewer slots of a kind than workers of that kind
abbrev pub LacksSlots : WorkOptions → Type 0
LacksSlots options = (options.slots < options.workers) ⊎ (options.slots < options.activity_workers)

-- there are at least as many slots of each kind as workers of that kind
abbrev pub HasSlots : WorkOptions → Type 0
HasSlots options = (options.workers ≤ options.slots) × (options.activity_workers ≤ options.slots)

-- the numbers of a plan are within their limits, with at least as many slots as workers
abbrev pub IsWithinLimits : Plan → Type 0
IsWithinLimits (Serve dir options _ _) = options.workers ≤ options.slots
IsWithinLimits (Work options) = IsWithinWorkLimits options × HasSlots options
IsWithinLimits _ = Unit {0}
