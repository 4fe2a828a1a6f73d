use Rattle.std.proofs.Common.{◌≡◌, ◌≤◌, ◌++◌, length, drop}
use Rattle.wh_events.specs.Cuts.{commanded}
use Rattle.wh_explain.specs.Pairings.{pairings}
use Rattle.wh_explain.proofs.pairing.add_pairs.Given as goal

-- the commands so far are named as the events so far
abbrev pub invariant-loop-event : goal.invariant-loop-event
invariant-loop-event l =
    (l.index ≤ length l.sent)
    × (l.paired.items ++ pairings l.history (drop l.index l.sent) (commanded (drop l.event-index l.events)) ≡ l.fn.paired.items ++ pairings l.history l.sent (commanded l.events))
