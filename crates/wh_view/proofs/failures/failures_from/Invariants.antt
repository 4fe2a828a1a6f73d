use Rattle.std.proofs.Common.{◌≡◌, ◌-◌, ◌++◌}
use Rattle.std.specs.Prelude.{option_map}
use Rattle.serde_json.specs.View.{view}
use Rattle.wh_view.specs.Failures.{failures_from}
use Rattle.wh_view.proofs.failures.failures_from.Given as goal

-- what was viewed so far, with the failure at hand and its causes, is all
abbrev pub invariant-loop-depth : goal.invariant-loop-depth
invariant-loop-depth l =
    l.viewed.items ++ failures_from (16 - l._depth) (option_map (λ v. view v.now) l.failure)
    ≡ failures_from 16 (option_map (λ v. view v.now) l.fn.outermost)
