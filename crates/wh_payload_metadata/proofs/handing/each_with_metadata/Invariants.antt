use Rattle.std.proofs.Common.{◌≡◌, map, take}
use Rattle.serde_json.specs.View.{view, members_view}
use Rattle.wh_payload_metadata.specs.Handed.{with_metadata}
use Rattle.wh_payload_metadata.proofs.handing.each_with_metadata.Given as goal

abbrev pub invariant-loop-payload : goal.invariant-loop-payload
invariant-loop-payload l =
    map view l.handed.items ≡ map (λ p. with_metadata (members_view l.fn.seen.entries) (view p)) (take l.payload-index l.payload-items)
