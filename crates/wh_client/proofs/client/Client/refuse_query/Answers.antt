use Rattle.std.proofs.Common.{◌∙◌, ap}
use Rattle.wh_client.proofs.Taking.{taken_by}
use Rattle.wh_client.proofs.client.Client.refuse_query.Goals as goal
use Rattle.wh_messages.specs.Requests.{no_queries, query_failed}

-- the server took the call with the parameters that were written for it
pub returns-in-Ok-clause-sent : goal.returns-in-Ok-clause-sent
returns-in-Ok-clause-sent g c =
    let written = c.in_ok-params.ensures ∙ ap (λ token. query_failed c.args.self.now.options.now.names token no_queries) c.get.ensures in
    taken_by g.L.Connection.gives _ _ _ _ written c.in-Ok.ensures.given
