use Rattle.std.specs.Prelude.{codes}
use Rattle.wh_messages.specs.Requests.{workflow_failed}
use Rattle.wh_live.proofs.Receipts.{called_if_written}
use Rattle.wh_live.proofs.answering.fail.Goals as goal

-- what became of the failure is what became of the request that was written
pub returns-clause-sent : goal.returns-clause-sent
returns-clause-sent g c =
    λ _. record {
      message = c.args.message.now;
      became = called_if_written g.L.Connection.gives g.L.Connection.fails (codes "RespondWorkflowTaskFailed")
          (workflow_failed c.args.client.now.options.now.names c.args.task.now.token c.args.cause c.args.message.now)
          c.failure_request-request.result c.send_written.result c.failure_request-request.ensures c.send_written.ensures.received;
    }
