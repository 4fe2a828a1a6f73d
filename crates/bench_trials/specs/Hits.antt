-- The counts of the turns of a worker.
use Rattle.std.specs.Prelude.{ℕ, ◌+◌, ◌-◌, ◌^◌, min, true, false, Result, Ok}
use Rattle.wh_poll.specs.declared.serve.Served.{Served}
use Rattle.wh_poll.specs.declared.serve.Served.TheVariants.{Workflow}
use Rattle.bench_trials.specs.declared.soak.hits.HitCount.{HitCount}

-- one more, up to the largest number
abbrev pub one_more : ℕ → ℕ
one_more count = min (count + 1) (2 ^ 64 - 1)

-- the counts after a turn: a workflow task that was answered is a hit or a miss
abbrev pub heard : {E : Type 0} → HitCount → Result Served E → HitCount
heard old (Ok (Workflow name true steps outcome)) = record old { hits = one_more old.hits }
heard old (Ok (Workflow name false steps outcome)) = record old { misses = one_more old.misses }
heard old turn = old
