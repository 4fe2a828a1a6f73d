use Rattle.std.proofs.Common.{◌≡◌, drop}
use Rattle.wh_run_page.specs.Headings.{first_like}
use Rattle.wh_run_page.proofs.headings.first_like.Given as goal

-- no event so far is sought
abbrev pub invariant-loop-event : goal.invariant-loop-event
invariant-loop-event l = first_like l.sought (drop l.event-index l.events) ≡ first_like l.sought l.events
