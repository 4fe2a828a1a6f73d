-- Heartbeats of activities, and answers for canceled activities.
use Rattle.std.specs.Prelude.{◌≡◌, ◌≢◌, ℕ, Bool, List, [], ◌∷◌, codes, Option, Some}
use Rattle.serde_json.specs.Data.{Data, string, object}
use Rattle.wh_events.specs.declared.event.Payload.{Payload}
use Rattle.wh_commands.specs.declared.names.WorkerNames.{WorkerNames}
use Rattle.wh_commands.specs.Objects.{put_all}
use Rattle.wh_commands.specs.Payloads.{json_payloads}
use Rattle.wh_commands.specs.ReadBack.{HaveBytes, payloads_of}
use Rattle.wh_messages.specs.Requests.{activity_completed, activity_failed, answer_of, answer_with}
use Rattle.wh_messages.specs.ServerReads.{IsAnswer}

-- the activity of a task is still running, with details for a later attempt
abbrev pub activity_heartbeat : WorkerNames → List ℕ → List Payload → Data
activity_heartbeat names token details = answer_with names token (codes "details") details

-- an activity that was canceled, with the reason as its details
abbrev pub activity_canceled : WorkerNames → List ℕ → List ℕ → Data
activity_canceled names token reason = object (put_all (
    (codes "details", json_payloads (string reason)) ∷ []) (answer_of names token))

-- ---- Laws

-- a heartbeat names the worker and the task, and has the details; the answer for a canceled activity names both
pub record AreHeartbeats (names : WorkerNames) (token : List ℕ) : Type 0 where
  pub heartbeat : (details : List Payload) → IsAnswer names token (activity_heartbeat names token details)
  pub details : (details : List Payload) → HaveBytes details
      → payloads_of (codes "details") (activity_heartbeat names token details) ≡ Some details
  pub canceled : (reason : List ℕ) → IsAnswer names token (activity_canceled names token reason)

abbrev pub HeartbeatsAreRead : Type 0
HeartbeatsAreRead = (names : WorkerNames) (token : List ℕ) → AreHeartbeats names token

-- the answer for a canceled activity is never written like that for a failed one, nor like a result
abbrev pub CanceledIsApart : Type 0
CanceledIsApart = (names : WorkerNames) (token other_token reason message : List ℕ)
    (failure_type : Option (List ℕ)) (retryable : Bool) (outcome : List Payload)
    → (activity_canceled names token reason ≢ activity_failed names other_token message failure_type retryable)
    × (activity_canceled names token reason ≢ activity_completed names other_token outcome)
