use Rattle.std.proofs.Common.{◌≡◌, ◌+◌, ◌*◌, ◌++◌, [], None, length}
use Rattle.std.specs.Prelude.{option_to_list}
use Rattle.std.specs.Vec.Iter.{into_iter_items, into_iter_len}
use Rattle.wh_workflow.specs.Law.{IsLawful}
use Rattle.wh_workflow.specs.Activations.{follow, room}
use Rattle.wh_workflow.proofs.Following.{IsTraced}
use Rattle.wh_replay.specs.Views.{context_of, progress_of}
use Rattle.wh_replay.specs.Activating.{IsOf}
use Rattle.wh_explain.proofs.stepping.show_jobs.Given as goal

-- the steps so far trace the activation
abbrev pub invariant-loop-next : goal.invariant-loop-next
invariant-loop-next g l =
    let program = g.W.Workflow.program in
    let before = l.fn.activation in
    record {
      of : IsOf l.cut l.activation.script;
      count : into_iter_len l.jobs ≡ length (into_iter_items l.jobs);
      done : l.next ≡ None → into_iter_items l.jobs ≡ [];
      traced : (lawful : IsLawful program)
          → IsTraced program lawful (context_of l.cut) l.fn.jobs.items before.state before.versions 0 l.steps.items (option_to_list l.next ++ into_iter_items l.jobs) (progress_of l.activation l.meter);
    }

abbrev pub decreases-loop-next : goal.decreases-loop-next
decreases-loop-next g l = 4099 * length (into_iter_items l.jobs) + follow l.next 0 (λ _. room (progress_of l.activation l.meter))
