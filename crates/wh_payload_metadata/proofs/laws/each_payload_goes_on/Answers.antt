use Rattle.wh_payload_metadata.proofs.Reaching.{each_payload}
use Rattle.wh_payload_metadata.proofs.laws.each_payload_goes_on.Goals as goal

pub returns : goal.returns
returns c = each_payload
