use Rattle.std.proofs.Common.{◌≡◌, drop}
use Rattle.wh_view_report.specs.Texts.{numbered_in}
use Rattle.wh_view_report.proofs.text.numbered_in.Given as goal

-- no event passed so far has the number
abbrev pub invariant-loop-event : goal.invariant-loop-event
invariant-loop-event l = numbered_in l.number (drop l.event-index l.events) ≡ numbered_in l.number l.events
