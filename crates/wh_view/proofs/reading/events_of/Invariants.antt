use Rattle.std.proofs.Common.{◌≡◌, ◌+◌, ◌++◌, take, drop}
use Rattle.std.specs.Prelude.{None, map}
use Rattle.serde_json.specs.View.{view}
use Rattle.wh_view.specs.Views.{AreEventsOf, reads_of, reads_from}
use Rattle.wh_view.proofs.reading.events_of.Given as goal

-- an event stands for each member so far; what is read of them and of the rest is read of all
abbrev pub invariant-loop-index : goal.invariant-loop-index
invariant-loop-index l =
    AreEventsOf (map view (take l.index l.members)) l.events.items
    × (reads_of l.events.items ++ reads_from (l.index + 1) l.before (map view (drop l.index l.members))
    ≡ reads_from 1 None (map view l.members))
