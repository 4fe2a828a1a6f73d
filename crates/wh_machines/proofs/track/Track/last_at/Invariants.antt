use Rattle.std.proofs.Common.{unwrap_or}
use Rattle.wh_machines.specs.Lookups.{thing_of}
use Rattle.wh_machines.proofs.Chain.{IsLastWithin}
use Rattle.wh_machines.proofs.track.Track.last_at.Given as goal

abbrev pub invariant-loop-last : goal.invariant-loop-last
invariant-loop-last l = IsLastWithin l.self-inside.events.items (thing_of l.fn.kind) l.id l.place l.last

abbrev pub decreases-loop-last : goal.decreases-loop-last
decreases-loop-last l = unwrap_or l.last 0
