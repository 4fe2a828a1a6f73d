use Rattle.std.proofs.Common.{◌≡◌, map}
use Rattle.wh_recorded.specs.Rounds.{opening_stage}
use Rattle.wh_service.specs.Assignment.{histories_seen}
use Rattle.wh_service.proofs.assignment.sources_of.Given as goal

abbrev pub invariant-loop-list : goal.invariant-loop-list
invariant-loop-list l = l.sources.items ≡ map (λ list. opening_stage (histories_seen list)) l.yielded
