-- The verdict of a replay goes by its result, and by the workflow type, if that is not registered.
use Rattle.std.proofs.Common.{◌≡◌, ◌∙◌, ℕ, Bool, true, false, cond, List, [], length, None, Some, refl, ap, sym}
use Rattle.std.specs.Prelude.{Option, Result, Ok, Err}
use Rattle.wh_events.specs.declared.event.Event.{Event}
use Rattle.wh_events.specs.declared.place.PlaceFault.{PlaceFault}
use Rattle.wh_events.specs.Cuts.{cuts}
use Rattle.wh_events.specs.Machines.{machines_of}
use Rattle.wh_events.specs.Places.{history_fault}
use Rattle.wh_workflow.specs.Activations.{and_then}
use Rattle.wh_workflow.specs.Law.{Program}
use Rattle.wh_workflow.specs.declared.fault.WorkflowFault.TheVariants.{UnknownWorkflow}
use Rattle.wh_replay.specs.Outcomes.{replayed_tasks, ends_live}
use Rattle.wh_replay.specs.Replays.{replay_after, replay_known, replay_placed, replay_tasks, start, with_machines, workflow_of}
use Rattle.wh_replay.specs.Tracking.{in_place}
use Rattle.wh_replay.specs.declared.fault.ReplayedTasks.{ReplayedTasks}
use Rattle.wh_replay.specs.declared.fault.Fault.{Fault}
use Rattle.wh_replay.specs.declared.fault.Fault.TheVariants.{Place, Workflow}
use Rattle.wh_tester.specs.Private.Verdicts.{faulted}
use Rattle.wh_tester.specs.UnknownTypes.{unknown_of, unknown_placed}
use Rattle.wh_tester.specs.Verdicts.{judged}
use Rattle.wh_tester.specs.declared.line.Verdict.{Verdict}
use Rattle.wh_tester.specs.declared.line.Verdict.TheVariants.{Good, Faulty}

module _ {S : Type 0} (program : Program S) (events : List Event) where
  -- the result of the replay, by where the events are and whether the type is registered
  abbrev found_by : Option (ℕ × PlaceFault) → Bool → Result ReplayedTasks Fault
  found_by place knows =
      and_then (and_then (replay_placed place (replay_known knows (replay_after program [] [] events (start program (workflow_of events) 0)))) (λ left. Ok (with_machines (machines_of events) left)))
      (λ _. Ok (record { tasks = length (cuts events); live = ends_live events }))

  -- the type that the events begin with, if it is not registered; and that of events in place
  abbrev begun_by : Bool → Option (List ℕ)
  begun_by knows = cond knows None (Some (workflow_of events))

  abbrev unknown_by : Option (ℕ × PlaceFault) → Bool → Option (List ℕ)
  unknown_by None knows = begun_by knows
  unknown_by (Some fault) knows = None

  unknown_is : unknown_of program events ≡ unknown_by (history_fault events) (program.knows (workflow_of events))
  unknown_is = by (history_fault events)
    where
      by : (place : Option (ℕ × PlaceFault)) → unknown_placed program (in_place place events) ≡ unknown_by place (program.knows (workflow_of events))
      by None = refl
      by (Some fault) = refl

  good_by : (place : Option (ℕ × PlaceFault)) (knows : Bool) (own : ReplayedTasks) → found_by place knows ≡ Ok own → Good own ≡ judged (unknown_by place knows) (found_by place knows)
  good_by None true own is = sym (ap (judged None) is)
  good_by None false own is = absurd (cc)
  good_by (Some fault) knows own is = absurd (cc)

  misplaced : (knows : Bool) (at : ℕ) (fault : PlaceFault) → faulted (begun_by knows) (Place at fault) ≡ Faulty (Place at fault)
  misplaced true at fault = refl
  misplaced false at fault = refl

  faulty_by : (place : Option (ℕ × PlaceFault)) (knows : Bool) (fault : Fault) → found_by place knows ≡ Err fault → faulted (begun_by knows) fault ≡ judged (unknown_by place knows) (found_by place knows)
  faulty_by None true fault is = sym (ap (judged None) is)
  faulty_by None false fault is = (let same : fault ≡ Workflow 1 UnknownWorkflow = cc in ap (faulted (Some (workflow_of events))) same)
  faulty_by (Some own) knows fault is = (let same : fault ≡ Place own.0 own.1 = cc in ap (faulted (begun_by knows)) same ∙ misplaced knows own.0 own.1)

  -- a replay that has no fault
  pub good_judged : (own : ReplayedTasks) → replayed_tasks program events ≡ Ok own → Good own ≡ judged (unknown_of program events) (replayed_tasks program events)
  unfolding replay_tasks
  good_judged own is =
      good_by (history_fault events) (program.knows (workflow_of events)) own is
      ∙ ap (λ unknown. judged unknown (replayed_tasks program events)) (sym unknown_is)

  -- and one that has one, by the type that its events begin with
  pub fault_judged : (fault : Fault) → replayed_tasks program events ≡ Err fault → faulted (unknown_placed program (Ok events)) fault ≡ judged (unknown_of program events) (replayed_tasks program events)
  unfolding replay_tasks
  fault_judged fault is =
      faulty_by (history_fault events) (program.knows (workflow_of events)) fault is
      ∙ ap (λ unknown. judged unknown (replayed_tasks program events)) (sym unknown_is)
