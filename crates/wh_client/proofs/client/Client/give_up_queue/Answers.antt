use Rattle.std.proofs.Common.{subst, sym}
use Rattle.wh_client.proofs.Taking.{taken_by}
use Rattle.wh_client.proofs.client.Client.give_up_queue.Goals as goal
use Rattle.wh_client.specs.Requests.{GivesUpQueue}

-- there is a sticky queue, and the server took the call with the parameters that were written for it
pub returns-in-Ok-clause-given_up : goal.returns-in-Ok-clause-given_up
returns-in-Ok-clause-given_up g c =
    let taken = taken_by g.L.Connection.gives _ _ _ _ c.in_ok-params.ensures c.in-Ok.ensures.given in
    subst (GivesUpQueue g.L.Connection.gives c.args.self.now.options.now.names) (sym c.in-Some.is) taken
