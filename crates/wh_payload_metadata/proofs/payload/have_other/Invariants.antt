use Rattle.std.proofs.Common.{◌≡◌}
use Rattle.serde_json.specs.View.{members_view}
use Rattle.wh_payload_metadata.specs.Payloads.{have_other}
use Rattle.wh_payload_metadata.proofs.payload.have_other.Given as goal

abbrev pub invariant-loop-name : goal.invariant-loop-name
invariant-loop-name l = have_other (members_view l.name-iterator) ≡ have_other (members_view l.members.entries)
