-- What is sent for an activity task.
use Rattle.std.specs.Prelude.{◌≡◌, ◌≢◌, ℕ, List, Bool, true, codes}
use Rattle.wh_client.specs.Calls.{Fails, Gives}
use Rattle.wh_client.specs.Heartbeats.{IsFailedActivity, WasCanceled}
use Rattle.wh_client.specs.Requests.{IsRequest}
use Rattle.wh_client.specs.declared.codes.Receipt.{Receipt}
use Rattle.wh_client.specs.declared.codes.Receipt.TheVariants.{NoMemory}
use Rattle.wh_client.specs.declared.requests.Request.{Request}
use Rattle.wh_commands.specs.declared.names.WorkerNames.{WorkerNames}
use Rattle.wh_messages.specs.Requests.{activity_completed}
use Rattle.wh_live.specs.declared.tasks.OpenTask.{OpenTask}
use Rattle.wh_live.specs.Private.Receipts.{IsRequestReceipt}
use Rattle.wh_tasks.specs.declared.source.ActivityAnswer.{ActivityAnswer}
use Rattle.wh_tasks.specs.declared.source.ActivityAnswer.TheVariants.{Completed, Failed}

-- an activity's result is sent as such, even if the activity was to be canceled; its failure is sent as canceled if it
-- was to be canceled, otherwise as failed
abbrev pub IsActivityRequest : WorkerNames → List ℕ → ActivityAnswer → Bool → Request → Type 0
IsActivityRequest names token (Completed outcome) was_canceled request =
    IsRequest request (codes "RespondActivityTaskCompleted") (activity_completed names token outcome)
IsActivityRequest names token (Failed failure) was_canceled request =
    IsFailedActivity names token failure.message failure.failure_type failure.retryable was_canceled request

-- what became of such an answer to the task of a token; it is sent as canceled only if the response to a heartbeat of
-- that task said that it is to be
pub record AnswersActivity (gives : Gives) (fails : Fails) (names : WorkerNames) (token : List ℕ)
    (answer : ActivityAnswer) (receipt : Receipt) : Type 0 where
  pub was_canceled : Bool
  pub heard : was_canceled ≡ true → WasCanceled gives token
  pub request : Request
  pub written : IsActivityRequest names token answer was_canceled request
  pub became : IsRequestReceipt gives fails request receipt

-- what became of the answer to an open activity task, unless there was no memory; it is never kept back
abbrev pub IsActivityReceipt : Gives → Fails → WorkerNames → ActivityAnswer → OpenTask → Receipt → Type 0
IsActivityReceipt gives fails names answer task receipt =
    receipt ≢ NoMemory → AnswersActivity gives fails names task.token answer receipt
