use Rattle.std.proofs.Common.{◌≡◌, ◌++◌, ◌∙◌, List, [], Some, None, Option, length, refl, ap, subst, sym, length-append, arith, rules}
use Rattle.std.specs.Prelude.{option_to_list}
use Rattle.std.specs.Vec.Iter.{into_iter_items, into_iter_len}
use Rattle.wh_workflow.specs.declared.job.Job.{Job}
use Rattle.wh_workflow.specs.declared.fault.WorkflowFault.{WorkflowFault}
use Rattle.wh_workflow.specs.ActivationScripts.{Step}
use Rattle.wh_workflow.proofs.Following.{IsTraced, no_versions}
use Rattle.wh_replay.specs.Views.{context_of, progress, progress_of, turn_of}
use Rattle.wh_explain.specs.Private.Stepping.{Leaves}
use Rattle.wh_explain.proofs.Tasks.{told_plain}
use Rattle.wh_explain.proofs.Traced.{begins, goes_on, ends_faulty, ends_well, is_longest, leaves, less_room, none_left}
use Rattle.wh_explain.proofs.stepping.show_jobs.Goals as goal

pub loop-next-init : goal.loop-next-init
loop-next-init g c =
    let cut = c.args.cut.now in
    let before = c.args.activation.now in
    let program = g.W.Workflow.program in
    let jobs = c.args.jobs.items in
    let next = c.next-next.result in
    let rest = into_iter_items c.next-next.new.self in
    let count : into_iter_len c.next-next.new.self ≡ length rest = search rules in
    let done : next ≡ None → rest ≡ [] = search rules in
    let parts : jobs ≡ option_to_list next ++ rest = search rules in
    let plain = ap no_versions c.requires.told ∙ told_plain cut.track.now cut.previous cut.number in
    let start = progress_of before c.new-meter.result in
    let begin : start ≡ progress before.state before.versions [] 0
    = ap (λ issued. progress before.state before.versions issued c.new-meter.result) c.requires.unissued ∙ ap (λ meter. progress before.state before.versions [] meter) c.new-meter.ensures in
    record {
      of = c.requires.script;
      count = count;
      done = done;
      traced = λ lawful.
          let P : List Step → Type 0 = λ steps. IsTraced program lawful (context_of cut) jobs before.state before.versions 0 steps (option_to_list next ++ rest) start in
          subst P (sym c.new-steps.ensures.items) (begins program lawful (context_of cut) jobs before.state before.versions next rest start plain parts begin);
    }

pub loop-next-smaller-in-Ok-Some : goal.loop-next-smaller-in-Ok-Some
loop-next-smaller-in-Ok-Some g c =
    let at = c.loop-next in
    let e = rw c.in-Ok-Some.field-0-is at c.in-Ok-Some.ensures.turned in
    less_room g.W.Workflow.program (context_of c.args.cut.now) at.next c.in-Some.job c.in-Ok-Some.version (length (into_iter_items at.jobs)) (progress_of at.activation at.meter) (progress_of c.add_step.new.activation c.add_step.new.meter) c.in-Some.is e

pub loop-next-preserved-in-Ok-Some : goal.loop-next-preserved-in-Ok-Some
loop-next-preserved-in-Ok-Some g c =
    let at = c.loop-next in
    let before = c.args.activation.now in
    let after = c.add_step.new in
    let e = rw c.in-Ok-Some.field-0-is at c.in-Ok-Some.ensures.turned in
    record {
      of = c.in-Ok-Some.ensures.script;
      count = at.invariant.count;
      done = λ none. cc;
      traced = λ lawful.
          goes_on g.W.Workflow.program lawful (context_of c.args.cut.now) c.args.jobs.items before.state before.versions c.in-Ok-Some.field-0 at.steps.items after.steps.items at.next c.in-Some.job (into_iter_items at.jobs) (progress_of at.activation at.meter)
          (turn_of after.activation after.meter (Some c.in-Ok-Some.version)) c.in-Some.is (at.invariant.traced lawful) e c.in-Ok-Some.ensures.added;
    }

pub loop-next-preserved : goal.loop-next-preserved
loop-next-preserved g c =
    let at = c.loop-next in
    let before = c.args.activation.now in
    let after = c.add_step.new in
    let rest = into_iter_items c.next.new.self in
    let e = rw c.in-Ok-None.field-0-is at c.in-Ok-None.ensures.turned in
    let parts : into_iter_items at.jobs ≡ option_to_list c.next.result ++ rest = c.next.ensures.items in
    record {
      of = c.in-Ok-None.ensures.script;
      count = let h = c.next.ensures.len in let was = at.invariant.count in let all = ap length parts ∙ length-append (option_to_list c.next.result) rest in omega arith;
      done = λ none. none_left (into_iter_len at.jobs) c.next.result (into_iter_items at.jobs) rest none at.invariant.count c.next.ensures.variant.1 parts;
      traced = λ lawful.
          let on = goes_on g.W.Workflow.program lawful (context_of c.args.cut.now) c.args.jobs.items before.state before.versions c.in-Ok-None.field-0 at.steps.items after.steps.items at.next c.in-Some.job (into_iter_items at.jobs) (progress_of at.activation at.meter)
          (turn_of after.activation after.meter None) c.in-Some.is (at.invariant.traced lawful) e c.in-Ok-None.ensures.added in
          rw parts at on;
    }

pub returns-in-Err-Workflow-clause-steps : goal.returns-in-Err-Workflow-clause-steps
returns-in-Err-Workflow-clause-steps g c =
    let at = c.loop-next in
    let before = c.args.activation.now in
    let after = c.add_step.new in
    let program = g.W.Workflow.program in
    let lawful = g.met.W.Workflow.lawful in
    let context = context_of c.args.cut.now in
    let jobs = c.args.jobs.items in
    let e = rw c.in-Err-Workflow.field-0-is at c.in-Err-Workflow.ensures.turned in
    let added = rw c.in-Err-Workflow.field-0-is at c.in-Err-Workflow.ensures.added in
    let all = ends_faulty program lawful context jobs before.state before.versions (Option Job) at.steps.items after.steps.items at.next c.in-Some.job (into_iter_items at.jobs) (progress_of at.activation at.meter) c.in-Err-Workflow.fault
    c.in-Some.is (at.invariant.traced lawful) e added in
    let P : WorkflowFault → Type 0 = λ fault. Leaves program context before.state before.versions after.steps.items (Some fault) after.activation.state after.activation.versions after.activation.script.issued in
    record {
      steps = after.steps.items;
      keeps = refl;
      longest = is_longest program lawful context jobs before.state before.versions after.steps.items _ all;
      leaves = subst P (sym c.in-Err-Workflow.fault-is)
          (leaves program lawful context jobs before.state before.versions after.steps.items (Some c.in-Err-Workflow.fault) (progress_of after.activation after.meter) all);
    }

pub returns-clause-steps : goal.returns-clause-steps
returns-clause-steps g c =
    let at = c.loop-next in
    let before = c.args.activation.now in
    let program = g.W.Workflow.program in
    let lawful = g.met.W.Workflow.lawful in
    let context = context_of c.args.cut.now in
    let jobs = c.args.jobs.items in
    let all = ends_well program lawful context jobs before.state before.versions at.steps.items at.next (into_iter_items at.jobs) (progress_of at.activation at.meter) c.in_default.is (at.invariant.done c.in_default.is) (at.invariant.traced lawful) in
    record {
      steps = at.steps.items;
      keeps = refl;
      longest = is_longest program lawful context jobs before.state before.versions at.steps.items _ all;
      leaves = leaves program lawful context jobs before.state before.versions at.steps.items None (progress_of at.activation at.meter) all;
    }
