use Rattle.std.proofs.Common.{◌++◌, ◌-◌, sym, ap, ◌∙◌}
use Rattle.std.specs.Prelude.{option_map}
use Rattle.serde_json.specs.View.{view}
use Rattle.wh_view.specs.Failures.{failures_from}
use Rattle.wh_view.proofs.Causes.{failure_more}
use Rattle.wh_view.proofs.failures.failures_from.Goals as goal

pub loop-depth-preserved : goal.loop-depth-preserved
loop-depth-preserved c =
    let l = c.loop-depth in
    failure_more l._depth (view c.in-Some.current.now) _ c.in_ok-one.one l.viewed.items _ c.loop-depth-test.true
    c.in_ok-push.ensures.items c.in_ok-one.ensures c.field-failure.ensures
    ∙ ap (λ f. l.viewed.items ++ failures_from (16 - l._depth) (option_map (λ v. view v.now) f)) (sym c.in-Some.is)
    ∙ l.invariant
