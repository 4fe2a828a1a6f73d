-- What replay finds of a history, and its tasks, if they are kept.
use Rattle.std.specs.Prelude.{◌≡◌, ℕ, List, [], length, Option, Some, None, Result, Ok, Err}
use Rattle.wh_events.specs.declared.event.Event.{Event}
use Rattle.wh_events.specs.Cuts.{cuts}
use Rattle.wh_json.specs.Events.{history}
use Rattle.wh_workflow.specs.Activations.{and_then}
use Rattle.wh_workflow.specs.Law.{Program}
use Rattle.wh_replay.specs.declared.fault.ReplayedTasks.{ReplayedTasks}
use Rattle.wh_replay.specs.declared.fault.Fault.{Fault}
use Rattle.wh_replay.specs.Outcomes.{replayed_tasks, ends_live}
use Rattle.wh_replay.specs.Replays.{replay_after, replay_known, start, workflow_of}
use Rattle.wh_tester.specs.declared.line.Verdict.{Verdict}
use Rattle.wh_tester.specs.Verdicts.{judged, verdict_on}
use Rattle.wh_explain.specs.declared.explanation.DetailLevel.{DetailLevel}
use Rattle.wh_explained_tasks.specs.declared.ExplainedTask.{ExplainedTask}
use Rattle.wh_explain.specs.declared.explanation.Explanation.{Explanation}
use Rattle.wh_explain.specs.Differences.{last_difference}
use Rattle.wh_explain.specs.Explaining.{AreTasksIn, AreTasksOf, AreTasksPlaced}
use Rattle.wh_tester.specs.UnknownTypes.{unknown_of, unknown_placed}
use Rattle.wh_explain.specs.Private.Stepping.{Keeps}

-- the explanation has these tasks, kept as `detail` says, this verdict, and the difference that the tasks end in
pub record IsFound (detail : DetailLevel) (AreThose : List ExplainedTask → Type 0) (verdict : Verdict)
    (own : Explanation) : Type 0 where
  pub tasks : List ExplainedTask
  pub explained : AreThose tasks
  pub keeps : Keeps detail own.tasks tasks
  pub verdict_is : own.verdict ≡ verdict
  pub differs_in : own.difference ≡ last_difference tasks

module _ {S : Type 0} where
  -- what replay finds of events in place
  abbrev pub replayed_placed : Program S → Result (List Event) Fault → Result ReplayedTasks Fault
  replayed_placed program (Err fault) = Err fault
  replayed_placed program (Ok events) =
      and_then
      (replay_known (program.knows (workflow_of events))
      (replay_after program [] [] events (start program (workflow_of events) 0)))
      (λ _. Ok (record { tasks = length (cuts events); live = ends_live events }))

  -- the explanation of events in place
  abbrev pub IsFoundPlaced : DetailLevel → Program S → Result (List Event) Fault → Explanation → Type 0
  IsFoundPlaced detail program placed =
      IsFound detail (AreTasksPlaced placed program)
      (judged (unknown_placed program placed) (replayed_placed program placed))

  -- the explanation of a history
  abbrev pub IsFoundOf : DetailLevel → Program S → List Event → Explanation → Type 0
  IsFoundOf detail program events =
      IsFound detail (AreTasksOf program events) (judged (unknown_of program events) (replayed_tasks program events))

  -- the explanation of a file
  abbrev pub IsFoundIn : DetailLevel → Program S → List ℕ → Explanation → Type 0
  IsFoundIn detail program bytes =
      IsFound detail (AreTasksIn program (history bytes)) (verdict_on program bytes)
