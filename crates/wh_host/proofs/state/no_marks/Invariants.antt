use Rattle.std.proofs.Common.{◌≡◌, ◌≤◌, replicate, vec_capacity, vec_len}
use Rattle.std.specs.Prelude.{None}
use Rattle.wh_host.proofs.state.no_marks.Given as goal

abbrev pub invariant-loop-place : goal.invariant-loop-place
invariant-loop-place l = (l.marks.items ≡ replicate l._place None) × (vec_len l.marks ≡ l._place) × (l.count ≤ vec_capacity l.marks)
