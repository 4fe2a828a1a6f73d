-- What the result of a heartbeat's call means for the activity.
use Rattle.std.specs.Prelude.{◌≡◌, ℕ, List, Bool, true, false, Result, Ok, Err, IfOk, IfErr, codes}
use Rattle.wh_client.specs.Calls.{Fails, Gives}
use Rattle.wh_client.specs.Heartbeats.{IsHeartbeat}
use Rattle.wh_client.specs.Refusals.{IsFaultBy}
use Rattle.wh_commands.specs.declared.names.WorkerNames.{WorkerNames}
use Rattle.wh_events.specs.declared.event.Payload.{Payload}
use Rattle.wh_messages.specs.Heartbeats.{activity_heartbeat}
use Rattle.wh_client.specs.declared.asking.AskFault.{AskFault}
use Rattle.wh_client.specs.declared.asking.AskFault.TheVariants as asked
use Rattle.wh_client.specs.declared.codes.StatusCode.TheVariants as status
use Rattle.wh_events.specs.declared.memory.OutOfMemory.{OutOfMemory}
use Rattle.wh_tasks.specs.declared.heartbeat.HeartbeatResponse.{HeartbeatResponse}
use Rattle.wh_tasks.specs.declared.heartbeat.HeartbeatResponse.TheVariants.{GoOn, CancelRequested, Gone, Unheard}

-- the server says whether it is to be canceled; if it has no such task, or the connection has closed, no answer will be
-- accepted; after any other fault nothing is known
abbrev pub means : Result Bool AskFault → Result HeartbeatResponse AskFault
means (Ok true) = Ok CancelRequested
means (Ok false) = Ok GoOn
means (Err (asked.Refused status.NotFound code message)) = Ok Gone
means (Err asked.Closed) = Ok Gone
means (Err asked.OutOfMemory) = Err asked.OutOfMemory
means (Err _) = Ok Unheard

-- this is the response that the handler gets for the call
abbrev pub Means : Result Bool AskFault → Result HeartbeatResponse OutOfMemory → Type 0
Means heard (Ok response) = means heard ≡ Ok response
Means heard (Err refused) = means heard ≡ Err asked.OutOfMemory

-- this is the response to a heartbeat of the task of a token with these details: what its call came to decides
pub record IsResponseTo (gives : Gives) (fails : Fails) (names : WorkerNames) (token : List ℕ) (details : List Payload)
    (response : Result HeartbeatResponse OutOfMemory) : Type 0 where
  pub heard : Result Bool AskFault
  pub given : IfOk heard (IsHeartbeat gives names token details)
  pub failed : IfErr heard
      (IsFaultBy (fails (codes "RecordActivityTaskHeartbeat") (activity_heartbeat names token details)))
  pub means : Means heard response

-- what the cell notes of a heartbeat with this response
abbrev pub noted : Result HeartbeatResponse OutOfMemory → HeartbeatResponse
noted (Ok response) = response
noted (Err refused) = Unheard
