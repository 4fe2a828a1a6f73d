use Rattle.std.proofs.Common.{◌≡◌, ◌+◌, ◌*◌, ◌≤◌, drop}
use Rattle.serde_json.specs.Data.{depth, items_depth, members_depth}
use Rattle.serde_json.specs.View.{view, items_view, members_view}
use Rattle.wh_payload_metadata.specs.Payloads.{payloads_of_items, payloads_of_members}
use Rattle.wh_payload_metadata.specs.Seen.{all_noted}
use Rattle.wh_payload_metadata.proofs.Walks.{AreNoted}
use Rattle.wh_payload_metadata.proofs.noting.+note.Given as goal

abbrev pub decreases-note : goal.decreases-note
decreases-note l = 2 * depth (view l.value.now)

abbrev pub decreases-note_items : goal.decreases-note_items
decreases-note_items l = 2 * items_depth (items_view l.items.now.items) + 1

abbrev pub decreases-note_members : goal.decreases-note_members
decreases-note_members l = 2 * members_depth (members_view l.members.now.entries) + 1

abbrev pub invariant-note_items-loop-item : goal.invariant-note_items-loop-item
invariant-note_items-loop-item l =
    (all_noted (payloads_of_items (items_view (drop l.item-index l.item-items))) (members_view l.seen.entries)
    ≡ all_noted (payloads_of_items (items_view l.item-items)) (members_view l.initial.seen.entries))
    × AreNoted (payloads_of_items (items_view l.item-items)) (payloads_of_items (items_view (drop l.item-index l.item-items)))
    (members_view l.initial.seen.entries) (members_view l.seen.entries)

abbrev pub invariant-note_members-loop-name : goal.invariant-note_members-loop-name
invariant-note_members-loop-name l =
    (all_noted (payloads_of_members (members_view l.name-iterator)) (members_view l.seen.entries)
    ≡ all_noted (payloads_of_members (members_view l.fn.members.entries)) (members_view l.initial.seen.entries))
    × (members_depth (members_view l.name-iterator) ≤ members_depth (members_view l.fn.members.entries))
    × AreNoted (payloads_of_members (members_view l.fn.members.entries)) (payloads_of_members (members_view l.name-iterator))
    (members_view l.initial.seen.entries) (members_view l.seen.entries)
