-- The sizes of a host.
use Rattle.std.specs.Prelude.{◌<◌, ◌≤◌}
use Rattle.wh_slots.specs.declared.sizes.Config.{Config}

-- each size of a host is within its range
pub record IsConfig (config : Config) : Type 0 where
  pub workflow : (0 < config.workflow_slots) × (config.workflow_slots ≤ 1000)
  pub activity : (0 < config.activity_slots) × (config.activity_slots ≤ 1000)
  pub cache : config.cache ≤ 10000
  pub cache_events : config.cache_events ≤ 512000000
  pub seats : (0 < config.seats) × (config.seats ≤ 64)
