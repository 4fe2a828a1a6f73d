use Rattle.std.proofs.Common.{◌≡◌, ◌++◌, take}
use Rattle.wh_live.proofs.fetching.append_copies.Given as goal

abbrev pub invariant-loop-event : goal.invariant-loop-event
invariant-loop-event l = l.events.items ≡ l.fn.events.items ++ take l.event-index l.more
