use Rattle.std.proofs.Common.{◌≡◌, ◌++◌, List, String, Global}
use Rattle.serde_json.specs.View.{members_view}
use Rattle.wh_payload_metadata.specs.declared.header.Field.{Field}
use Rattle.wh_payload_metadata.specs.Header.{members_of}
use Rattle.wh_payload_metadata.proofs.header.Header.members.Given as goal

abbrev pub invariant-loop-name : goal.invariant-loop-name
invariant-loop-name l =
    (done : List (String Global × Field)) × (l.self.fields.entries ≡ done ++ l.name-iterator) × (members_view l.members.entries ≡ members_of done)
