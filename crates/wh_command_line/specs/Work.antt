-- The arguments of `work`, and its options.
use Rattle.std.specs.Prelude.{◌≡◌, ◌⊎◌, ℕ, ◌+◌, ◌≤◌, List, codes, Option, Some}
use Rattle.clap.specs.Words.{Row, Text, first_of}
use Rattle.wh_command_line.specs.Given.{GivesFlag, GivesFormat, GivesText, GivesWithin, LacksName, LacksText, MayGiveWithin}
use Rattle.wh_command_line.specs.Given.{value_named}
use Rattle.wh_command_line.specs.Options.{IsWithinWorkLimits, LacksSlots}
use Rattle.wh_command_line.specs.Sizes.{GivesAllWithin, GivesNumbers}
use Rattle.wh_command_line.specs.declared.work.WorkOptions.{WorkOptions}

-- the rows give the bounds of activities and waits, and the time between reports of counts, if there is one
pub record GivesLimits (rows : List Row) (timeout attempts sticky : ℕ) (stats : Option ℕ) : Type 0 where
  pub gives_timeout : value_named rows (codes "activity-timeout") ≡ Some timeout
  pub gives_attempts : value_named rows (codes "activity-attempts") ≡ Some attempts
  pub gives_sticky : value_named rows (codes "sticky-timeout") ≡ Some sticky
  pub gives_stats : value_named rows (codes "stats") ≡ stats

-- the rows give each of them within its limits
pub record GivesLimitsWithin (rows : List Row) : Type 0 where
  pub timeout : GivesWithin rows (codes "activity-timeout") 1 4294967295
  pub attempts : GivesWithin rows (codes "activity-attempts") 0 65535
  pub sticky : GivesWithin rows (codes "sticky-timeout") 1 4294967295
  pub stats : MayGiveWithin rows (codes "stats") 1 4294967295

-- the rows give a number of workers of activities, in addition to so many workers of workflows
pub record GivesBeside (rows : List Row) (workers : ℕ) : Type 0 where
  pub within : GivesWithin rows (codes "activity-workers") 0 63
  pub together : (number : ℕ) → value_named rows (codes "activity-workers") ≡ Some number → workers + number ≤ 64

-- the rows give the paths of the files, if there are any
pub record GivesFiles (rows : List Row) (policies metrics : Option Text) : Type 0 where
  pub gives_policies : first_of (codes "policies") rows ≡ policies
  pub gives_metrics : first_of (codes "metrics") rows ≡ metrics

-- the rows give the options
pub record GivesWork (rows : List Row) (options : WorkOptions) : Type 0 where
  pub task_queue : GivesText (codes "task-queue") rows options.task_queue
  pub namespace : GivesText (codes "namespace") rows options.namespace
  pub identity : GivesText (codes "identity") rows options.identity
  pub sizes : GivesNumbers rows options.workers options.cache options.cache_events options.slots
  pub activity_workers : value_named rows (codes "activity-workers") ≡ Some options.activity_workers
  pub limits : GivesLimits rows options.activity_timeout options.activity_attempts options.sticky_timeout options.stats
  pub files : GivesFiles rows options.policies options.metrics
  pub verbose : GivesFlag (codes "verbose") rows options.verbose
  pub format : GivesFormat rows options.format

-- the rows give options within their limits, with fewer slots of a kind than workers of that kind
pub record GivesFewWorkSlots (rows : List Row) : Type 0 where
  pub options : WorkOptions
  pub given : GivesWork rows options
  pub limits : IsWithinWorkLimits options
  pub few : LacksSlots options

-- the rows give no Task Queue, namespace or identity, or a number that is malformed or not within its limits, or too
-- many workers together
abbrev pub LacksWork : List Row → Type 0
LacksWork rows = ¬ (GivesAllWithin rows)
    ⊎ (((workers : ℕ) × (value_named rows (codes "workers") ≡ Some workers) × ¬ (GivesBeside rows workers))
    ⊎ (¬ (GivesLimitsWithin rows)
    ⊎ (LacksName (codes "task-queue") rows
    ⊎ (LacksText (codes "namespace") rows ⊎ LacksText (codes "identity") rows))))
