use Rattle.std.proofs.Common.{◌≡◌, map, drop}
use Rattle.serde_json.specs.View.{view, members_view}
use Rattle.wh_payload_metadata.specs.Seen.{all_noted}
use Rattle.wh_payload_metadata.proofs.Walks.{AreNoted}
use Rattle.wh_payload_metadata.proofs.noting.note_list.Given as goal

abbrev pub invariant-loop-payload : goal.invariant-loop-payload
invariant-loop-payload l =
    (all_noted (map view (drop l.payload-index l.payload-items)) (members_view l.seen.entries) ≡ all_noted (map view l.payload-items) (members_view l.initial.seen.entries))
    × AreNoted (map view l.payload-items) (map view (drop l.payload-index l.payload-items)) (members_view l.initial.seen.entries) (members_view l.seen.entries)
