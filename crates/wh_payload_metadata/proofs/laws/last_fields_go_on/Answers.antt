use Rattle.wh_payload_metadata.proofs.Setting.{last_event, nothing_else_sets, each_field}
use Rattle.wh_payload_metadata.proofs.laws.last_fields_go_on.Goals as goal

pub returns : goal.returns
returns c = record { last = last_event; nothing_else = nothing_else_sets; each = each_field }
