use Rattle.wh_rpc.proofs.Listing.{find_their_calls, given_once}
use Rattle.wh_rpc.proofs.laws.responses_find_their_calls.Goals as goal

pub returns-clause-call : goal.returns-clause-call
returns-clause-call g c = find_their_calls

pub returns-clause-once : goal.returns-clause-once
returns-clause-once g c = given_once
