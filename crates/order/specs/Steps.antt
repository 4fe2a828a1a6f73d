-- The answers of an activity whose input says what it does, and of all activities.
use Rattle.std.specs.Prelude.{◌≡◌, ℕ, Bool, true, false, List, [], ◌∷◌, Option, Some, None, bytes_eq, codes, slice_get, take, if◌then◌else◌}
use Rattle.std.specs.List.{All}
use Rattle.order.specs.declared.steps.StepKind.{StepKind}
use Rattle.order.specs.declared.steps.StepKind.TheVariants.{Wait, Fail, Beat}
use Rattle.order.specs.Labels.{called_off, stops}
use Rattle.order.specs.Till as till
use Rattle.wh_events.specs.declared.event.Payload.{Payload}
use Rattle.wh_tasks.specs.Failures.{plain}
use Rattle.wh_tasks.specs.WithHeartbeat.{Brings, Tells}
use Rattle.wh_tasks.specs.declared.failure.ActivityFailure.{ActivityFailure}
use Rattle.wh_tasks.specs.declared.heartbeat.HeartbeatResponse.{HeartbeatResponse}
use Rattle.wh_tasks.specs.declared.source.ActivityTask.{ActivityTask}
use Rattle.wh_tasks.specs.declared.source.ActivityAnswer.{ActivityAnswer}
use Rattle.wh_tasks.specs.declared.source.ActivityAnswer.TheVariants.{Completed, Failed}

-- what a step asks for
abbrev pub step_kind : Payload → StepKind
step_kind step =
    if bytes_eq step.content (codes "\"wait\"") then Wait
    else (if bytes_eq step.content (codes "\"fail\"") then Fail else Beat)

-- the failure after a heartbeat, by its response; none if the activity goes on
abbrev pub end_after : (is_stopped : Bool) → Option ActivityFailure
end_after true = Some called_off
end_after false = None

-- a step was sent as the details of a heartbeat, whose response says whether the activity ends
abbrev pub IsHeard : Brings → Payload → Option ActivityFailure → Type 0
IsHeard brings step end =
    (response : HeartbeatResponse) × (brings (step ∷ []) response × (end ≡ end_after (stops response)))

-- a step of a kind was taken, and the activity goes on, or ends with a failure
abbrev pub IsTakenAs : StepKind → Brings → Payload → Option ActivityFailure → Type 0
IsTakenAs Wait brings step end = end ≡ None
IsTakenAs Fail brings step end = end ≡ Some (plain (codes "failed"))
IsTakenAs Beat brings step end = IsHeard brings step end

-- a step was taken
abbrev pub IsTaken : Brings → Payload → Option ActivityFailure → Type 0
IsTaken brings step = IsTakenAs (step_kind step) brings step

-- these steps were taken, and the activity went on after each
abbrev pub WentOn : Brings → List Payload → Type 0
WentOn brings = All (λ step. IsTaken brings step None)

-- the activity went on after all steps, and is completed without a result; or it went on after some, and failed at the
-- next one
abbrev pub IsStepsAnswer : Brings → List Payload → ActivityAnswer → Type 0
IsStepsAnswer brings steps (Completed outcome) = (outcome ≡ []) × WentOn brings steps
IsStepsAnswer brings steps (Failed failure) =
    (place : ℕ) × ((step : Payload) × ((slice_get steps place ≡ Some step) × WentOn brings (take place steps)
    × IsTaken brings step (Some failure)))

-- the answer to a task that asks for steps, or to another task
abbrev pub Answers : (asks_for_steps : Bool) → Brings → Tells → ActivityTask → ActivityAnswer → Type 0
Answers true brings tells task answer = IsStepsAnswer brings task.input answer
Answers false brings tells task answer = till.MayAnswer brings tells task answer

-- this answer may be given
abbrev pub MayAnswer : Brings → Tells → ActivityTask → ActivityAnswer → Type 0
MayAnswer brings tells task answer = Answers (bytes_eq task.activity (codes "Steps")) brings tells task answer
