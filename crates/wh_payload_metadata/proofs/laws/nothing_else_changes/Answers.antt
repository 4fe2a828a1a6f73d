use Rattle.wh_payload_metadata.proofs.Erasing.{nothing_else}
use Rattle.wh_payload_metadata.proofs.laws.nothing_else_changes.Goals as goal

pub returns : goal.returns
returns c = nothing_else
