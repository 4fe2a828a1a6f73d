-- What the workers of a host poll.
use Rattle.std.specs.List.{Contains}
use Rattle.std.specs.Prelude.{◌≡◌, ◌<◌, ◌≤◌, ℕ, zero, suc, ◌/◌, max, Bool, true, nat_lt, nat_le, if◌then◌else◌, List, [], ◌∷◌, ◌++◌, map}
use Rattle.wh_client.specs.declared.options.TaskQueueKind.{TaskQueueKind}
use Rattle.wh_client.specs.declared.options.TaskQueueKind.TheVariants.{Normal, Sticky, Activities}
use Rattle.wh_live.specs.Deliveries.{LiveView, fresh}
use Rattle.wh_commands.specs.declared.names.WorkerNames.{WorkerNames}

-- how many workflow workers poll the queue of all workers: with a cache one in five, and at least one; otherwise all
abbrev pub normal_workers : ℕ → Bool → ℕ
normal_workers workers has_cache = if has_cache then max (workers / 5) 1 else workers

-- workflow workers come before those of activities, and among them those of the queue of all workers come first
abbrev pub role_at : ℕ → ℕ → ℕ → TaskQueueKind
role_at normal workers place =
    if nat_le workers place then Activities else (if nat_lt place normal then Normal else Sticky)

-- the roles of this many workers, in the order of their places
abbrev pub roles_of : ℕ → ℕ → ℕ → List TaskQueueKind
roles_of normal workers zero = []
roles_of normal workers (suc count) = roles_of normal workers count ++ role_at normal workers count ∷ []

-- a source for each of this many workers, which has not polled yet
abbrev pub sources_of : WorkerNames → ℕ → ℕ → ℕ → List LiveView
sources_of names normal workers count = map (λ role. fresh role names) (roles_of normal workers count)

-- ---- Laws

-- every queue is polled if the crew is large enough: that of all workers if there is a workflow worker, the sticky one
-- if runs are cached and there are two, and activities by each further worker
pub record EveryQueueIsPolled (workers count : ℕ) (has_cache : Bool) : Type 0 where
  pub normal : 1 ≤ workers → Contains (roles_of (normal_workers workers has_cache) workers count) Normal
  pub sticky : has_cache ≡ true → 2 ≤ workers
      → Contains (roles_of (normal_workers workers has_cache) workers count) Sticky
  pub activities : workers < count → Contains (roles_of (normal_workers workers has_cache) workers count) Activities

-- in each crew with at least as many workers as workflow workers
abbrev pub CrewsPollAll : Type 0
CrewsPollAll = (workers count : ℕ) (has_cache : Bool) → workers ≤ count → EveryQueueIsPolled workers count has_cache
