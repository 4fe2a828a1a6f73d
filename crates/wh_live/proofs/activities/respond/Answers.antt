use Rattle.std.proofs.Common.{◌≡◌, Bool, true, Result, Ok, Err, IfOk}
use Rattle.std.specs.Prelude.{MatchResult}
use Rattle.wh_client.specs.Calls.{Fails, Gives}
use Rattle.wh_client.specs.Heartbeats.{WasCanceled}
use Rattle.wh_client.specs.declared.codes.Receipt.{Receipt}
use Rattle.wh_client.specs.declared.codes.Receipt.TheVariants.{NoMemory}
use Rattle.wh_client.specs.declared.requests.Request.{Request}
use Rattle.wh_commands.specs.declared.names.WorkerNames.{WorkerNames}
use Rattle.wh_events.specs.declared.memory.OutOfMemory.{OutOfMemory}
use Rattle.wh_tasks.specs.declared.source.ActivityAnswer.{ActivityAnswer}
use Rattle.wh_live.specs.Private.Activities.{IsActivityReceipt, IsActivityRequest}
use Rattle.wh_live.specs.Private.Receipts.{IsRequestReceipt}
use Rattle.wh_live.specs.declared.tasks.OpenTask.{OpenTask}
use Rattle.wh_live.proofs.activities.respond.Goals as goal

-- the request of which this became is the one that was written
made : (gives : Gives) (fails : Fails) (names : WorkerNames) (answer : ActivityAnswer) (was_canceled : Bool) (task : OpenTask)
    (of : Receipt) → (was_canceled ≡ true → WasCanceled gives task.token) → (request : Result Request OutOfMemory)
    → IfOk request (IsActivityRequest names task.token answer was_canceled)
    → MatchResult request (λ r. IsRequestReceipt gives fails r of) (λ _. of ≡ NoMemory) → IsActivityReceipt gives fails names answer task of
made gives fails names answer was_canceled task of heard (Ok request) written became =
    λ _. record { was_canceled = was_canceled; heard = heard; request = request; written = written; became = became }
made gives fails names answer was_canceled task of heard (Err refused) written none = λ some. absurd (some none)

pub returns-clause-received : goal.returns-clause-received
returns-clause-received g c =
    made g.L.Connection.gives g.L.Connection.fails c.args.client.now.options.now.names c.args.answer.now
    c.was_canceled-was_canceled.result c.args.task.now c.send_written-receipt.result c.was_canceled-was_canceled.ensures
    c.activity_request-request.result c.activity_request-request.ensures c.send_written-receipt.ensures.received
