use Rattle.std.proofs.Common.{◌≡◌, ◌++◌, List, map, drop}
use Rattle.serde_json.specs.Data.{Data}
use Rattle.serde_json.specs.View.{view}
use Rattle.wh_payload_metadata.specs.Header.{fields_after, fields_of}
use Rattle.wh_payload_metadata.proofs.header.Header.keep_events.Given as goal

abbrev pub invariant-loop-event : goal.invariant-loop-event
invariant-loop-event l =
    (fields_after (map view (drop l.event-index l.events)) (fields_of l.self) ≡ fields_after (map view l.events) (fields_of l.initial.self))
    × ((first : List Data) × (map view l.events ≡ first ++ map view (drop l.event-index l.events)) × (fields_of l.self ≡ fields_after first (fields_of l.initial.self)))
