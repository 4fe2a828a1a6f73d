use Rattle.std.proofs.Common.{◌≡◌, string_cmp}
use Rattle.std.specs.List.Sorted.{IsStrictlySortedBy}
use Rattle.std.specs.Map.{keys_of}
use Rattle.serde_json.specs.View.{members_view}
use Rattle.wh_payload_metadata.specs.Header.{fields_set, fields_of}
use Rattle.wh_payload_metadata.proofs.Setting.{IsEachOldOrDone}
use Rattle.wh_payload_metadata.proofs.header.Header.set_all.Given as goal

abbrev pub invariant-loop-name : goal.invariant-loop-name
invariant-loop-name l =
    (fields_set l.number (members_view l.name-iterator) (fields_of l.self) ≡ fields_set l.number (members_view l.fields.entries) (fields_of l.initial.self))
    × IsStrictlySortedBy string_cmp (keys_of l.name-iterator)
    × IsEachOldOrDone (fields_of l.initial.self) (fields_of l.self) (members_view l.name-iterator)
