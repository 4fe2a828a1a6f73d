use Rattle.std.proofs.Common.{◌≡◌, ◌≤◌, ◌∙◌, true, sym, ap, refl, arith}
use Rattle.std.proofs.lemmas.Result.{err_from_is_err_and}
use Rattle.wh_replay.specs.Replays.{ends_in_task}
use Rattle.wh_replay.specs.Views.{replay_result_of}
use Rattle.wh_replay.proofs.Raising.{top}
use Rattle.wh_replay.proofs.Resuming.{replayed_counts}
use Rattle.wh_replay.proofs.Ending.{is_replayed, replayed_run, begins_err}
use Rattle.wh_replay.proofs.history.ReplayedHistory.from_first.Goals as goal

pub returns-in_err-track-clause-history : goal.returns-in_err-track-clause-history
returns-in_err-track-clause-history g c =
    let program = g.W.Workflow.program in
    let events = c.args.events.items in
    let below : c.args.meter.now ≤ top = omega (arith, c.count-proof_fits.ensures, c.count-proof_fits.type_inv) in
    let ends : ends_in_task events ≡ true = ap ends_in_task (sym c.as_slice.ensures.value) ∙ (sym c.ends_in_task.ensures ∙ c.if-not-ends_in_task.false) in
    let p = err_from_is_err_and c.from_residual.result c.from_residual.ensures.1 in
    rw (p.1, p.2) (begins_err program events c.args.meter.now c.in_err-track.field-0.0 _ _ refl below ends c.in_err-track.ensures.replayed)

pub invariant_of-result : goal.invariant_of-result
invariant_of-result g c =
    let program = g.W.Workflow.program in
    let events = c.args.events.items in
    let below : c.args.meter.now ≤ top = omega (arith, c.count-proof_fits.ensures, c.count-proof_fits.type_inv) in
    let ends : ends_in_task events ≡ true = ap ends_in_task (sym c.as_slice.ensures.value) ∙ (sym c.ends_in_task.ensures ∙ c.if-not-ends_in_task.false) in
    let value = replay_result_of c.in_ok-track.walk.replayed c.replay.new.meter in
    rw c.in_ok-track.ensures.track (replayed_run program events c.args.meter.now value ends below c.in_ok-track.ensures.replayed)

pub returns-clause-history : goal.returns-clause-history
returns-clause-history g c =
    let program = g.W.Workflow.program in
    let events = c.args.events.items in
    let below : c.args.meter.now ≤ top = omega (arith, c.count-proof_fits.ensures, c.count-proof_fits.type_inv) in
    let ends : ends_in_task events ≡ true = ap ends_in_task (sym c.as_slice.ensures.value) ∙ (sym c.ends_in_task.ensures ∙ c.if-not-ends_in_task.false) in
    let value = replay_result_of c.in_ok-track.walk.replayed c.replay.new.meter in
    let run = replayed_run program events c.args.meter.now value ends below c.in_ok-track.ensures.replayed in (
      c.in_ok-track.ensures.track,
      rw c.in_ok-track.ensures.track (is_replayed program events value.state value.settled value.unsent run),
    )

pub returns-clause-meter : goal.returns-clause-meter
returns-clause-meter g c =
    let program = g.W.Workflow.program in
    let events = c.args.events.items in
    let below : c.args.meter.now ≤ top = omega (arith, c.count-proof_fits.ensures, c.count-proof_fits.type_inv) in
    let value = replay_result_of c.in_ok-track.walk.replayed c.replay.new.meter in
    replayed_counts program events c.args.meter.now value below c.in_ok-track.ensures.replayed
