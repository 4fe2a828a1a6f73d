-- A task is made of its parts.
use Rattle.std.proofs.Common.{◌≡◌, ℕ, List, codes, Option, Some, refl}
use Rattle.std.specs.Result.{result_ok}
use Rattle.serde_json.specs.Data.{Data}
use Rattle.wh_events.specs.declared.event.Payload.{Payload}
use Rattle.wh_events.specs.declared.key.RunKey.{RunKey}
use Rattle.wh_tasks.specs.declared.activity_info.ActivityInfo.{ActivityInfo}
use Rattle.wh_tasks.specs.declared.activity_info.ActivityTimes.{ActivityTimes}
use Rattle.wh_json.specs.Fields.{field}
use Rattle.wh_json.specs.Payloads.{payloads_at}
use Rattle.wh_messages.specs.Responses.{needed, run_in, activity_type, activity_in, info_in}

-- the parts that were read make the task
pub activity_made : (token : List ℕ) (d : Data) (run : RunKey) (id activity : List ℕ) (input : List Payload) (info : ActivityInfo)
    → run_in (field (codes "workflowExecution") (Some d)) ≡ Some run → needed (field (codes "activityId") (Some d)) ≡ Some id
    → activity_type d ≡ Some activity → result_ok (payloads_at 0 (field (codes "input") (Some d))) ≡ Some input
    → info_in d ≡ Some info
    → activity_in token d ≡ Some (record { token = token; run = run; id = id; activity = activity; input = input; info = info })
unfolding activity_in
activity_made token d run id activity input info has_run has_id has_type has_input has_info =
    rw (has_run, has_id, has_type, has_input, has_info) refl

-- the same of an info
pub info_made : (info : ActivityInfo) (attempt : ℕ) (details : Option (List Payload)) (times : ActivityTimes)
    → attempt ≡ info.attempt → details ≡ info.heartbeat_details → times ≡ info.times
    → record { attempt = attempt; heartbeat_details = details; times = times } ≡ info
info_made info attempt details times has_attempt has_details has_times = rw (has_attempt, has_details, has_times) refl
