-- The results of polls.
use Rattle.std.specs.Prelude.{◌≡◌, ◌⊎◌, ℕ, List, Bool, codes}
use Rattle.serde_json.specs.Data.{Data}
use Rattle.serde_json.specs.View.{view}
use Rattle.wh_commands.specs.declared.names.WorkerNames.{WorkerNames}
use Rattle.wh_messages.specs.declared.response.ActivityPoll.{ActivityPoll}
use Rattle.wh_messages.specs.declared.response.QueryPoll.{QueryPoll}
use Rattle.wh_messages.specs.Requests.{poll_workflow, poll_activity}
use Rattle.wh_messages.specs.Responses.{Poll, query, workflow_poll, activity_poll}
use Rattle.wh_rpc.specs.declared.call_fault.CallFault.TheVariants.{Output}
use Rattle.wh_client.specs.Calls.{Fails, Gives, NoResult, no_response, refused}
use Rattle.wh_client.specs.Codes.{KeepsOut}

-- the server returns a result of this meaning for a poll of a queue
pub record IsWorkflowPoll (gives : Gives) (names : WorkerNames) (sticky : Bool) (poll : Poll) : Type 0 where
  pub result : Data
  pub given : gives (codes "PollWorkflowTaskQueue") (poll_workflow names sticky) result
  pub read : poll ≡ workflow_poll result

-- the server returns a result of this meaning for a poll for activity tasks
pub record IsActivityPoll (gives : Gives) (names : WorkerNames) (poll : ActivityPoll) : Type 0 where
  pub result : Data
  pub given : gives (codes "PollActivityTaskQueue") (poll_activity names) result
  pub read : poll ≡ activity_poll result

-- the server returns this query for a poll of a queue
abbrev pub GivesQuery : Gives → QueryPoll → Type 0
GivesQuery gives asked =
    (names : WorkerNames) × (sticky : Bool) × IsWorkflowPoll gives names sticky (query asked.token (view asked.result))

-- ---- Polls that can not succeed

-- a request of this method with these parameters is a poll of a queue
abbrev pub IsPoll : List ℕ → Data → Type 0
IsPoll method params = (names : WorkerNames)
    × (((sticky : Bool) × (method ≡ codes "PollWorkflowTaskQueue") × (params ≡ poll_workflow names sticky))
    ⊎ ((method ≡ codes "PollActivityTaskQueue") × (params ≡ poll_activity names)))

-- after such a poll no later one can succeed: the worker is not let in, or the request could not be written
abbrev pub EndsPolling : NoResult → Type 0
EndsPolling (refused code message) = KeepsOut code
EndsPolling (no_response why) = why ≡ Output

-- no later poll of the process can succeed: one has shown that
pub record IsPollingOver (fails : Fails) : Type 0 where
  pub method : List ℕ
  pub params : Data
  pub poll : IsPoll method params
  pub why : NoResult
  pub came : fails method params why
  pub ends : EndsPolling why
