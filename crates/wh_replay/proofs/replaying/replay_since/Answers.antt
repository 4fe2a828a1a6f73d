use Rattle.std.proofs.Common.{◌≡◌, ℕ, suc, ◌∙◌, length, sym, ap, [], take, drop, is_none, arith, rules}
use Rattle.std.proofs.lemmas.Result.{err_from_is_err_and}
use Rattle.wh_events.specs.Cuts.{cuts, commanded, record_of}
use Rattle.wh_split.specs.Splits.{first_of}
use Rattle.wh_workflow.specs.Scripts.{ActivationContext}
use Rattle.wh_replay.specs.Replays.{replay_after}
use Rattle.wh_replay.specs.Views.{replay_result_of, span_events}
use Rattle.wh_replay.specs.Private.Views.{task_of}
use Rattle.wh_replay.proofs.Walking.{answers_err}
use Rattle.wh_replay.proofs.Stepping.{IsNext, next_is, no_cut, no_cuts, no_lives, task_here, lives_span, walk_ok, walk_err}
use Rattle.wh_replay.proofs.replaying.replay_since.Goals as goal

pub returns-in_err-replayed-clause-replayed : goal.returns-in_err-replayed-clause-replayed
returns-in_err-replayed-clause-replayed g c =
    let program = g.W.Workflow.program in
    let track = c.args.track.now in
    let at = c.loop-cut in
    let cut = c.in-Some.cut in
    let before = replay_result_of at.replayed at.meter in
    let is = c.in-Some.ensures.some in
    let n = next_is track at.last cut.number c.len-proof_in_place.ensures.in_place at.invariant.low (ap first_of is.first) in
    let p = err_from_is_err_and c.from_residual.result c.from_residual.ensures.1 in
    rw (p.1, p.2) (answers_err c.in_err-replayed.field-0.0 (task_of program cut before)
    (replay_after program (take c.args.from track) [] (drop c.args.from track) (replay_result_of c.args.replayed c.args.meter.now)) _ _
    (λ fault e. sym at.invariant.left ∙ walk_err program track at.last cut.number before fault n (sym (task_here program track at.last cut before is) ∙ e))
    c.in_err-replayed.ensures.ran)

pub loop-cut-smaller : goal.loop-cut-smaller
loop-cut-smaller g c =
    let is = c.in-Some.ensures.some in
    let n = next_is c.args.track.now c.loop-cut.last c.in-Some.cut.number c.len-proof_in_place.ensures.in_place c.loop-cut.invariant.low (ap first_of is.first) in
    omega (arith, n.past, n.within, c.get-last.ensures.kept)

pub loop-cut-preserved : goal.loop-cut-preserved
loop-cut-preserved g c =
    let program = g.W.Workflow.program in
    let track = c.args.track.now in
    let at = c.loop-cut in
    let cut = c.in-Some.cut in
    let number : ℕ = cut.number in
    let kept : c.get-last.result ≡ number = c.get-last.ensures.kept in
    let before = replay_result_of at.replayed at.meter in
    let left = replay_result_of c.in_ok-replayed.replayed c.run_task.new.meter in
    let is = c.in-Some.ensures.some in
    let n : IsNext track at.last number = next_is track at.last number c.len-proof_in_place.ensures.in_place at.invariant.low (ap first_of is.first) in
    let recorded = ap (λ (k : ActivationContext). k.recorded) is.context in
    let more : length (cuts (drop at.last track)) ≡ suc (length (cuts (drop c.get-last.result track))) = rw kept (ap length n.counts) in
    let rises = c.in_ok-replayed.ensures.never_lowered in
    let none : c.is_none-live.result ≡ is_none cut.span = search rules in
    record {
      low = omega (arith, n.within, kept);
      left =
          ap (λ k. replay_after program (take k track) [] (drop k track) left) kept
          ∙ (walk_ok program track at.last number before left n (sym (task_here program track at.last cut before is) ∙ c.in_ok-replayed.ensures.ran) ∙ at.invariant.left);
      few = omega (arith, at.invariant.few, n.past, kept);
      counted = omega (arith, at.invariant.counted, more);
      lives = rw kept (lives_span track at.last number at.live n (λ span. commanded (span_events cut.track.now span)) cut.span (record_of (drop number track)) recorded c.is_none-live.result none ∙ at.invariant.lives);
      never_lowered = omega (arith, at.invariant.never_lowered, rises);
    }

pub returns-clause-replayed : goal.returns-clause-replayed
returns-clause-replayed g c =
    let program = g.W.Workflow.program in
    let track = c.args.track.now in
    let last : ℕ = c.loop-cut.last in
    sym c.loop-cut.invariant.left ∙ no_cut program (take last track) [] (drop last track) (replay_result_of c.loop-cut.replayed c.loop-cut.meter) (ap first_of c.in_default.ensures.none)

pub returns-clause-tasks : goal.returns-clause-tasks
returns-clause-tasks g c =
    let none = no_cuts (drop c.loop-cut.last c.args.track.now) (ap first_of c.in_default.ensures.none) in
    omega (arith, c.loop-cut.invariant.counted, none)

pub returns-clause-live : goal.returns-clause-live
returns-clause-live g c = no_lives (drop c.loop-cut.last c.args.track.now) c.loop-cut.live (ap first_of c.in_default.ensures.none) ∙ c.loop-cut.invariant.lives
