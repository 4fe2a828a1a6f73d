use Rattle.wh_rpc.proofs.Listing.{stay_ended, polls_end}
use Rattle.wh_rpc.proofs.laws.ended_calls_stay_ended.Goals as goal

pub returns-clause-ended : goal.returns-clause-ended
returns-clause-ended g c = stay_ended

pub returns-clause-polls : goal.returns-clause-polls
returns-clause-polls g c = polls_end
