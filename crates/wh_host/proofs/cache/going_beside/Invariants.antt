use Rattle.std.proofs.Common.{◌≡◌, ◌+◌, length}
use Rattle.wh_host.specs.Cache.{held_by, fitting}
use Rattle.wh_host.proofs.Fitting.{beside}
use Rattle.wh_host.proofs.cache.going_beside.Given as goal

-- what is left, and as many fit as at first
abbrev pub invariant-last : goal.invariant-last
invariant-last g l =
    (l.count ≡ length (beside l.key l.rest))
    × (l.held ≡ held_by (beside l.key l.rest))
    × (l.going + l.count ≡ l.fn.count)
    × (fitting l.room l.left (beside l.key l.rest) ≡ fitting l.room l.left (beside l.key l.runs.entries))

abbrev pub decreases-last : goal.decreases-last
decreases-last g l = length l.rest
