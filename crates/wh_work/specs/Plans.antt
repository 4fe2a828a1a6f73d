-- How options ask to serve live tasks.
use Rattle.std.specs.Prelude.{◌≡◌, ℕ, ◌+◌, ◌<◌, ◌≤◌, ◌&&◌, Bool, IsSome, Option, Some, None, Result, Ok, if◌then◌else◌, leb}
use Rattle.wh_command_line.specs.Sizes.{config_of}
use Rattle.wh_command_line.specs.declared.work.WorkOptions.{WorkOptions}
use Rattle.wh_slots.specs.Sizes.{IsConfig}
use Rattle.wh_slots.specs.declared.sizes.Config.{Config}
use Rattle.wh_client.specs.declared.options.LiveOptions.{LiveOptions}
use Rattle.wh_crew.specs.declared.serving.LiveEnd.{LiveEnd}
use Rattle.wh_work.specs.Policies.{ArePolicies}
use Rattle.wh_work.specs.declared.plan.LivePlan.{LivePlan}

-- runs are kept between their tasks: there is a cache, and a worker beside the one that polls the queue of all workers
abbrev pub keeps_runs : WorkOptions → Bool
keeps_runs options = leb 1 options.cache && leb 2 options.workers

-- the sizes of the host: a seat for each worker, and a cache if runs are kept
abbrev pub live_config : WorkOptions → Config
live_config options = config_of (options.workers + options.activity_workers)
    (if keeps_runs options then options.cache else 0) options.cache_events options.slots

-- how many seconds a task waits in the sticky queue, if there is one
abbrev pub sticky_of : WorkOptions → Option ℕ
sticky_of options = if keeps_runs options then Some options.sticky_timeout else None

-- what the workers poll and say of themselves is what the options name
pub record AreLiveOptions (options : WorkOptions) (live : LiveOptions) : Type 0 where
  pub namespace : live.names.namespace ≡ options.namespace
  pub task_queue : live.names.task_queue ≡ options.task_queue
  pub identity : live.names.identity ≡ options.identity
  pub sticky : live.sticky ≡ sticky_of options
  pub verbose : live.verbose ≡ options.verbose

-- the plan is that of the options
pub record IsLivePlan (options : WorkOptions) (plan : LivePlan) : Type 0 where
  pub sizes : plan.config ≡ live_config options
  pub named : AreLiveOptions options plan.options
  pub policies : ArePolicies options plan.options.policies
  pub workers : plan.workers ≡ options.workers
  pub stats : plan.stats ≡ options.stats
  pub format : plan.format ≡ options.format
  pub metrics : plan.metrics ≡ options.metrics

-- what may be left of live tasks that were served by a plan
abbrev pub LivesBy : Type 1
LivesBy = LivePlan → LiveEnd → Type 0

-- what is left if a call that serves live tasks gives it
abbrev pub lives : {E : Type 0} → (LivePlan → Result LiveEnd E → Type 0) → LivesBy
lives gives plan end = gives plan (Ok end)

-- live tasks may be served by each plan for a host of good sizes
abbrev pub MayServe : (LivePlan → Type 0) → Type 0
MayServe may = (plan : LivePlan) → IsConfig plan.config → may plan

-- a host keeps runs only if their tasks come by a sticky queue, and a worker is there beside the one that polls the
-- queue of all workers; it keeps as many as it is asked to
abbrev pub RunsAreKeptBesideAStickyQueue : Type 0
RunsAreKeptBesideAStickyQueue =
    (options : WorkOptions) → 0 < (live_config options).cache
    → (2 ≤ options.workers) × IsSome (sticky_of options) × ((live_config options).cache ≡ options.cache)

-- if there is a sticky queue, runs are kept
abbrev pub StickyQueueKeepsRuns : Type 0
StickyQueueKeepsRuns = (options : WorkOptions) → IsSome (sticky_of options) → 0 < (live_config options).cache

-- with two workers or more, as many runs are kept as is asked for
abbrev pub TwoKeepWhatIsAskedFor : Type 0
TwoKeepWhatIsAskedFor = (options : WorkOptions) → 2 ≤ options.workers → (live_config options).cache ≡ options.cache
