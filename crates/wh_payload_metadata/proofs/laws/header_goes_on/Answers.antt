use Rattle.wh_payload_metadata.proofs.Reaching.{each_header, header_last}
use Rattle.wh_payload_metadata.proofs.laws.header_goes_on.Goals as goal

pub returns : goal.returns
returns c = record { header = each_header; last = header_last }
