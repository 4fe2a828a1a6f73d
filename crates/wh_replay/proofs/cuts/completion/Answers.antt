use Rattle.std.proofs.Common.{◌≡◌, ◌∷◌, ◌+◌, ◌∙◌, ℕ, true, drop, sym, ap, arith}
use Rattle.wh_events.specs.Cuts.{is_task_completed, is_recorded, after_completed}
use Rattle.wh_replay.proofs.Walking.{dropped}
use Rattle.wh_replay.proofs.Stepping.{recorded_here}
use Rattle.wh_replay.proofs.cuts.completion.Goals as goal

pub returns-then-is_task_completed-clause-completed : goal.returns-then-is_task_completed-clause-completed
returns-then-is_task_completed-clause-completed c =
    let events = c.args.events.now in
    let place : ℕ = c.loop-place.place in
    let event = c.index-events-place.result in
    let here : drop place events ≡ event ∷ drop (place + 1) events = dropped events place event (omega arith) c.index-events-place.is in
    let done : is_task_completed event ≡ true = sym c.is_task_completed.ensures ∙ c.if-is_task_completed.true in
    sym (sym c.loop-place.invariant.0 ∙ (ap is_recorded here ∙ (recorded_here event (drop (place + 1) events) done).0))

pub returns-then-is_task_completed-clause-after : goal.returns-then-is_task_completed-clause-after
returns-then-is_task_completed-clause-after c =
    let events = c.args.events.now in
    let place : ℕ = c.loop-place.place in
    let event = c.index-events-place.result in
    let here : drop place events ≡ event ∷ drop (place + 1) events = dropped events place event (omega arith) c.index-events-place.is in
    let done : is_task_completed event ≡ true = sym c.is_task_completed.ensures ∙ c.if-is_task_completed.true in
    sym c.loop-place.invariant.1 ∙ (ap after_completed here ∙ (recorded_here event (drop (place + 1) events) done).1)
