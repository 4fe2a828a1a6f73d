-- Heartbeats of activities, and the responses to them.
use Rattle.std.specs.Prelude.{◌≡◌, ℕ, List, Bool, true, false, Option, Some, codes}
use Rattle.serde_json.specs.Data.{Data}
use Rattle.wh_events.specs.declared.event.Payload.{Payload}
use Rattle.wh_client.specs.Calls.{Gives}
use Rattle.wh_client.specs.Requests.{IsRequest}
use Rattle.wh_client.specs.declared.requests.Request.{Request}
use Rattle.wh_commands.specs.ReadBack.{text_at}
use Rattle.wh_commands.specs.declared.names.WorkerNames.{WorkerNames}
use Rattle.wh_messages.specs.Heartbeats.{activity_canceled, activity_heartbeat}
use Rattle.wh_messages.specs.Requests.{activity_failed}
use Rattle.wh_messages.specs.CancelRequests.{is_cancel_requested}

-- the server returned a result for a heartbeat of the task of a token, which says whether the activity is to be
-- canceled
pub record IsHeartbeat (gives : Gives) (names : WorkerNames) (token : List ℕ)
    (details : List Payload) (canceled : Bool) : Type 0 where
  pub result : Data
  pub given : gives (codes "RecordActivityTaskHeartbeat") (activity_heartbeat names token details) result
  pub read : canceled ≡ is_cancel_requested result

-- the response to a heartbeat of the task of a token said that its activity is to be canceled
pub record WasCanceled (gives : Gives) (token : List ℕ) : Type 0 where
  pub params : Data
  pub of_task : text_at (codes "taskToken") params ≡ Some token
  pub result : Data
  pub given : gives (codes "RecordActivityTaskHeartbeat") params result
  pub requested : is_cancel_requested result ≡ true

-- the answer for a failed activity: as canceled if that was heard in a heartbeat, otherwise as failed, with the type of
-- the failure, if it has one, and whether it may be retried
abbrev pub IsFailedActivity : WorkerNames → List ℕ → List ℕ → Option (List ℕ) → Bool → Bool → Request → Type 0
IsFailedActivity names token reason failure_type retryable true request =
    IsRequest request (codes "RespondActivityTaskCanceled") (activity_canceled names token reason)
IsFailedActivity names token reason failure_type retryable false request =
    IsRequest request (codes "RespondActivityTaskFailed") (activity_failed names token reason failure_type retryable)
