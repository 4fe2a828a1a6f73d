-- The size of a host for which numbers ask.
use Rattle.std.specs.Prelude.{◌≡◌, ℕ, List, codes, Some}
use Rattle.clap.specs.Words.{Row}
use Rattle.wh_slots.specs.Sizes.{IsConfig}
use Rattle.wh_slots.specs.declared.sizes.Config.{Config}
use Rattle.wh_command_line.specs.Given.{GivesWithin, value_named}

-- the size of a host for which the numbers ask
abbrev pub config_of : (workers cache cache_events slots : ℕ) → Config
config_of workers cache cache_events slots =
    record {
      workflow_slots = slots;
      activity_slots = slots;
      cache = cache;
      cache_events = cache_events;
      seats = workers;
    }

-- each number is within its limits, which are those of a host
abbrev pub AreWithinLimits : (workers cache cache_events slots : ℕ) → Type 0
AreWithinLimits workers cache cache_events slots = IsConfig (config_of workers cache cache_events slots)

-- the rows give the numbers
pub record GivesNumbers (rows : List Row) (workers cache cache_events slots : ℕ) : Type 0 where
  pub gives_workers : value_named rows (codes "workers") ≡ Some workers
  pub gives_cache : value_named rows (codes "cache") ≡ Some cache
  pub gives_cache_events : value_named rows (codes "cache-events") ≡ Some cache_events
  pub gives_slots : value_named rows (codes "slots") ≡ Some slots

-- the rows give a number within its limits under each name
pub record GivesAllWithin (rows : List Row) : Type 0 where
  pub workers : GivesWithin rows (codes "workers") 1 64
  pub cache : GivesWithin rows (codes "cache") 0 10000
  pub cache_events : GivesWithin rows (codes "cache-events") 0 512000000
  pub slots : GivesWithin rows (codes "slots") 1 1000
