use Rattle.std.proofs.Common.{◌≡◌, ◌∙◌, ℕ, suc, [], length, refl, sym, ap, subst, drop, is_none, is_some, arith, rules}
use Rattle.std.proofs.lemmas.Result.{err_from_is_err_and}
use Rattle.wh_events.specs.Cuts.{cuts, commanded, record_of}
use Rattle.wh_split.specs.Splits.{first_of}
use Rattle.wh_workflow.specs.Scripts.{ActivationContext}
use Rattle.wh_replay.specs.Views.{span_events}
use Rattle.wh_replay.specs.Outcomes.{replay_result}
use Rattle.wh_replay.proofs.Stepping.{IsNext, next_is, no_cuts, no_lives, lives_span}
use Rattle.wh_explain.proofs.Ends.{keeps_tasks, task_stops}
use Rattle.wh_explain.proofs.Tasks.{task_here}
use Rattle.wh_explain.proofs.Walked.{AreDone, HasReached, done_more, fault_here, fault_kept, fault_walked, kept_ended, reaches, walk_ended}
use Rattle.wh_explain.proofs.walk.walk_tasks.Goals as goal

pub loop-cut-init : goal.loop-cut-init
loop-cut-init g c = record {
  low = omega arith;
  few = omega arith;
  counted = omega arith;
  lives = refl;
  tasks = record { done = []; keeps = keeps_tasks c.args.detail _ _ c.requires; continues = λ more are. are; alike = refl };
  replay = record { current = replay_result c.args.left.state c.args.left.versions [] 0; state_is = refl; settled_is = refl; below = omega arith; same = refl };
}

-- a task that has a fault is the last
pub returns-in_err-left-clause-replayed_tasks : goal.returns-in_err-left-clause-replayed_tasks
returns-in_err-left-clause-replayed_tasks g c =
    let program = g.W.Workflow.program in
    let lawful = g.met.W.Workflow.lawful in
    let track = c.args.track.now in
    let at = c.loop-cut in
    let cut = c.in-Some.cut in
    let is = c.in-Some.ensures.some in
    let n : IsNext track at.last cut.number = next_is track at.last cut.number c.len-proof_in_place.ensures.in_place at.invariant.low (ap first_of is.first) in
    let p = err_from_is_err_and c.from_residual.result c.from_residual.ensures.1 in
    rw (p.1, p.2) (fault_walked program lawful track c.args.left.state c.args.left.versions c.args.detail at.tasks.items c.take_task.new.tasks.items at.last cut at.left.state at.left.versions _ c.in_err-left.field-0.0 is n at.invariant.replay c.in_err-left.ensures)

pub returns-in_err-left-clause-tasks : goal.returns-in_err-left-clause-tasks
returns-in_err-left-clause-tasks g c =
    let program = g.W.Workflow.program in
    let lawful = g.met.W.Workflow.lawful in
    let track = c.args.track.now in
    let at = c.loop-cut in
    let p = err_from_is_err_and c.from_residual.result c.from_residual.ensures.1 in
    rw (p.1, p.2) (fault_kept program lawful track c.args.left.state c.args.left.versions c.args.detail at.tasks.items c.take_task.new.tasks.items at.last c.in-Some.cut at.left.state at.left.versions _ c.in_err-left.field-0.0 c.in-Some.ensures.some at.invariant.tasks c.in_err-left.ensures)

pub loop-cut-smaller : goal.loop-cut-smaller
loop-cut-smaller g c =
    let is = c.in-Some.ensures.some in
    let n = next_is c.args.track.now c.loop-cut.last c.in-Some.cut.number c.len-proof_in_place.ensures.in_place c.loop-cut.invariant.low (ap first_of is.first) in
    omega (arith, n.past, n.within, c.get-last.ensures.kept)

pub loop-cut-preserved : goal.loop-cut-preserved
loop-cut-preserved g c =
    let program = g.W.Workflow.program in
    let lawful = g.met.W.Workflow.lawful in
    let track = c.args.track.now in
    let at = c.loop-cut in
    let cut = c.in-Some.cut in
    let number : ℕ = cut.number in
    let kept : c.get-last.result ≡ number = c.get-last.ensures.kept in
    let left = c.in_ok-left.left in
    let t = c.in_ok-left.ensures in
    let is = c.in-Some.ensures.some in
    let n : IsNext track at.last number = next_is track at.last number c.len-proof_in_place.ensures.in_place at.invariant.low (ap first_of is.first) in
    let recorded = ap (λ (k : ActivationContext). k.recorded) is.context in
    let more : length (cuts (drop at.last track)) ≡ suc (length (cuts (drop c.get-last.result track))) = rw kept (ap length n.counts) in
    let none : c.is_none-live.result ≡ is_none cut.span = search rules in
    let here = task_here program track at.last cut at.left.state at.left.versions t.task is t.explained in
    let fault = fault_here track at.last cut at.left.versions t.task _ is t.ends.fault_is in
    let passes = sym (task_stops program track at.last number at.left.state at.left.versions t.task here) ∙ ap is_some (sym fault) in
    let leaves = t.leaves passes in
    let P : ℕ → Type 0 = λ k. AreDone program track c.args.left.state c.args.left.versions c.args.detail c.take_task.new.tasks.items k left.state left.versions in
    let Q : ℕ → Type 0 = λ k. HasReached program track c.args.left.state c.args.left.versions k left.state left.versions in
    record {
      low = omega (arith, n.within, kept);
      few = omega (arith, at.invariant.few, n.past, kept);
      counted = omega (arith, at.invariant.counted, more);
      lives = rw kept (lives_span track at.last number at.live n (λ span. commanded (span_events cut.track.now span)) cut.span (record_of (drop number track)) recorded c.is_none-live.result none ∙ at.invariant.lives);
      tasks = subst P (sym kept)
          (done_more program lawful track c.args.left.state c.args.left.versions c.args.detail at.tasks.items c.take_task.new.tasks.items _ at.last number at.left.state left.state at.left.versions left.versions t.task t.ends at.invariant.tasks is.first here fault t.leaves);
      replay = subst Q (sym kept)
          (reaches program lawful track c.args.left.state c.args.left.versions at.last number at.left.state left.state at.left.versions left.versions t.task at.invariant.replay n here fault leaves.0 leaves.1);
    }

pub returns-clause-replayed_tasks : goal.returns-clause-replayed_tasks
returns-clause-replayed_tasks g c =
    let track = c.args.track.now in
    let at = c.loop-cut in
    let none = c.in_default.ensures.none in
    let few = no_cuts (drop at.last track) (ap first_of none) in
    walk_ended g.W.Workflow.program g.met.W.Workflow.lawful track c.args.left.state c.args.left.versions at.count at.last at.live at.left.state at.left.versions at.invariant.replay none (omega (arith, at.invariant.counted, few)) (no_lives (drop at.last track) at.live (ap first_of none) ∙ at.invariant.lives)

pub returns-clause-tasks : goal.returns-clause-tasks
returns-clause-tasks g c =
    let at = c.loop-cut in
    kept_ended g.W.Workflow.program g.met.W.Workflow.lawful c.args.track.now c.args.left.state c.args.left.versions c.args.detail at.tasks.items at.last at.left.state at.left.versions at.invariant.tasks c.in_default.ensures.none
