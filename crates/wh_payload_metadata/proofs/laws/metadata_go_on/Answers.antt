use Rattle.wh_payload_metadata.proofs.GoingOn.{go_on}
use Rattle.wh_payload_metadata.proofs.laws.metadata_go_on.Goals as goal

pub returns : goal.returns
returns c = go_on
