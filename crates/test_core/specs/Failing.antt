-- A source that makes one call fail: the other source, and which of the calls to come fails, counted from 1.
use Rattle.std.specs.Prelude.{◌≡◌, ℕ, ◌+◌, ◌-◌, ◌==◌, cond, Result, Err}
use Rattle.wh_tasks.specs.declared.source.SourceFault.{SourceFault}
use Rattle.wh_tasks.specs.declared.source.SourceFault.TheVariants.{Source}

-- a call is counted; the one that fails returns `Source` and does not reach the other source
abbrev pub Counts : {S R : Type 0} → S × ℕ → Result R SourceFault → S × ℕ → Type 0
Counts {S} {R} old result new = (new.1 ≡ old.1 - 1) × (old.1 ≡ 1 → (result ≡ Err Source) × (new.0 ≡ old.0))

-- how often it has failed by itself: once if the call that fails is no longer to come, or if none fails at all
abbrev pub spent : ℕ → ℕ
spent left = cond (left == 0) 1 0

-- how often it has failed: its own failures and those of the other source
abbrev pub failures_of : {S : Type 0} → (S → ℕ) → S × ℕ → ℕ
failures_of failures source = failures source.0 + spent source.1
