use Rattle.std.proofs.Common.{◌≡◌, ◌≤◌, ◌+◌, ℕ, List, length, take, sym, subst, ◌∙◌, arith}
use Rattle.wh_events.specs.declared.event.Event.{Event}
use Rattle.wh_query.specs.Completed.{completed_part}
use Rattle.wh_query.proofs.CompletedTasks.{grows, stays}
use Rattle.wh_query.proofs.completed.completed_len.Goals as goal
use Rattle.wh_query.proofs.completed.completed_len.Goals.{then-extends, else-extends}

pub loop-place-preserved : goal.loop-place-preserved
loop-place-preserved c =
    let events = c.args.events.now in
    let end = c.loop-place.end in
    let place = c.loop-place.place in
    let event = c.index-events-place.result in
    let kept = c.loop-place.invariant in
    let inside = c.loop-place-test.true in
    let Keeps = λ (n : ℕ). (n ≤ place + 1) × (place + 1 ≤ length events) × (take n events ≡ completed_part (take (place + 1) events)) in
    elim c.if-extends.branch [
      | then-extends w ↦ subst Keeps (sym w.end-is)
          (omega arith, omega (arith, inside), grows events end place event kept.0 inside c.index-events-place.is kept.2 (sym w.if-extends.true ∙ c.extends.ensures))
      | else-extends w ↦ subst Keeps (sym w.end-is)
          (omega (arith, kept.0), omega (arith, inside), stays events end place event kept.0 inside c.index-events-place.is kept.2 (sym w.if-extends.false ∙ c.extends.ensures))
    ]
