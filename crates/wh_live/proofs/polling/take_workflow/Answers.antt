use Rattle.std.proofs.Common.{inr, refl, subst}
use Rattle.wh_client.specs.Polls.{IsWorkflowPoll}
use Rattle.wh_messages.specs.Responses.{poll_seen}
use Rattle.wh_live.proofs.polling.take_workflow.Goals as goal

-- the poll gave a query
pub returns-in-Query-clause-noted : goal.returns-in-Query-clause-noted
returns-in-Query-clause-noted g c =
    let gives = g.L.Connection.gives in
    let names = c.args.client.now.options.now.names in
    let given = subst (λ poll. IsWorkflowPoll gives names c.args.sticky (poll_seen poll)) c.in-Query.is c.in_ok-id.ensures.polled in
    inr ((c.in-Query.query, (names, c.args.sticky, given)), refl)
