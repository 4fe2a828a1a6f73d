use Rattle.std.proofs.Common.{◌≡◌, ◌+◌, replicate}
use Rattle.wh_host.specs.Shares.{no_shares}
use Rattle.wh_host.proofs.ledger.Books.open.Given as goal

-- a part is left for each seat that is still to come
abbrev pub invariant-loop-seat : goal.invariant-loop-seat
invariant-loop-seat g l =
    (l.taken_left.parts + l._seat ≡ l.seats)
    × (l.completed_left.parts + l._seat ≡ l.seats)
    × (l.failed_left.parts + l._seat ≡ l.seats)
    × (l.taken_left.amount ≡ 0)
    × (l.completed_left.amount ≡ 0)
    × (l.failed_left.amount ≡ 0)
    × (l.all.items ≡ replicate l._seat no_shares)
