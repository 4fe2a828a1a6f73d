use Rattle.std.proofs.Common.{◌≡◌, ◌+◌, ◌*◌, ◌++◌, List, map, take, option_map}
use Rattle.serde_json.specs.Data.{depth, items_depth, members_depth}
use Rattle.serde_json.specs.View.{view, items_view, members_view}
use Rattle.serde_json.proofs.Views.{Entry}
use Rattle.wh_payload_metadata.specs.Handed.{handed_on, members_handed_on}
use Rattle.wh_payload_metadata.proofs.handing.+hand_on.Given as goal

abbrev pub decreases-hand_on : goal.decreases-hand_on
decreases-hand_on l = 2 * depth (view l.value.now)

abbrev pub decreases-hand_items_on : goal.decreases-hand_items_on
decreases-hand_items_on l = 2 * items_depth (items_view l.items.now.items) + 1

abbrev pub decreases-hand_members_on : goal.decreases-hand_members_on
decreases-hand_members_on l = 2 * members_depth (members_view l.members.now.entries) + 1

abbrev pub invariant-hand_items_on-loop-item : goal.invariant-hand_items_on-loop-item
invariant-hand_items_on-loop-item l =
    map view l.handed.items ≡ map (λ d. handed_on (members_view l.fn.seen.entries) (option_map (λ h. view h.now) l.fn.header) (view d)) (take l.item-index l.item-items)

abbrev pub invariant-hand_members_on-loop-name : goal.invariant-hand_members_on-loop-name
invariant-hand_members_on-loop-name l =
    (done : List Entry) × (l.members.entries ≡ done ++ l.name-iterator)
    × (members_view l.handed.entries ≡ members_handed_on (members_view l.fn.seen.entries) (option_map (λ h. view h.now) l.fn.header) (members_view done))
