use Rattle.std.proofs.Common.{◌≡◌, ◌+◌, ◌≤◌, vec_len}
use Rattle.std.specs.Prelude.{sum_by}
use Rattle.wh_host.proofs.ledger.merge_all.Given as goal

-- what is gathered and what is left is what there was, and never more than all parts
abbrev pub invariant-loop-seat : goal.invariant-loop-seat
invariant-loop-seat g l =
    (l.all_taken.parts + vec_len l.seats ≡ vec_len l.fn.seats)
    × (l.all_completed.parts + vec_len l.seats ≡ vec_len l.fn.seats)
    × (l.all_failed.parts + vec_len l.seats ≡ vec_len l.fn.seats)
    × (l.all_taken.parts ≤ g.T.Ledger.parts)
    × (l.all_completed.parts ≤ g.C.Ledger.parts)
    × (l.all_failed.parts ≤ g.F.Ledger.parts)
    × (l.all_taken.amount + sum_by (λ s. s.taken) l.seats.items ≡ sum_by (λ s. s.taken) l.fn.seats.items)
    × (l.all_completed.amount + sum_by (λ s. s.completed) l.seats.items ≡ sum_by (λ s. s.completed) l.fn.seats.items)
    × (l.all_failed.amount + sum_by (λ s. s.failed) l.seats.items ≡ sum_by (λ s. s.failed) l.fn.seats.items)

abbrev pub decreases-loop-seat : goal.decreases-loop-seat
decreases-loop-seat g l = goal.left-loop-seat g l
