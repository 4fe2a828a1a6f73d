use Rattle.std.proofs.Common.{◌≡◌, drop}
use Rattle.std.specs.List.{fold}
use Rattle.wh_explain_report.specs.RunFacts.{later_attempt}
use Rattle.wh_explain_report.proofs.run_facts.most_attempts.Given as goal

-- the events that are left lead on from the highest attempt so far
abbrev pub invariant-loop-event : goal.invariant-loop-event
invariant-loop-event l = fold later_attempt l.most (drop l.event-index l.events) ≡ fold later_attempt 0 l.events
