-- What holds for a host after a soak.
use Rattle.std.specs.Prelude.{◌≡◌, ◌+◌}
use Rattle.wh_host.specs.declared.reply.Totals.{Totals}
use Rattle.bench_trials.specs.declared.soak.serving.Tally.{Tally}

-- each task of the sources was taken, answered and counted once, and none is held
pub record IsSound (totals : Totals) (tally : Tally) : Type 0 where
  pub settled : totals.taken ≡ totals.completed + totals.failed
  pub none_in_hand : totals.in_hand ≡ 0
  pub all_taken : totals.taken ≡ tally.tasks
  pub all_answered : totals.taken ≡ tally.hits + tally.misses
