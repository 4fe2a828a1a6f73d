use Rattle.std.proofs.Common.{◌≡◌, ◌+◌, ◌≤◌, ◌++◌, map, reverse, vec_len, vec_capacity}
use Rattle.wh_poll.proofs.pairs.zip_lists.Given as goal

abbrev pub invariant-loop-first : goal.invariant-loop-first
invariant-loop-first g l = record {
  firsts : l.firsts.items ++ reverse (map (λ pair. pair.0) l.pairs.items) ≡ l.fn.firsts.items;
  seconds : l.seconds.items ++ reverse (map (λ pair. pair.1) l.pairs.items) ≡ l.fn.seconds.items;
  counts : vec_len l.seconds ≡ vec_len l.firsts;
  all : vec_len l.pairs + vec_len l.firsts ≡ vec_len l.fn.firsts;
  room : vec_len l.pairs + vec_len l.firsts ≤ vec_capacity l.pairs;
  same : vec_capacity l.firsts ≡ vec_capacity l.fn.firsts;
}

abbrev pub decreases-loop-first : goal.decreases-loop-first
decreases-loop-first g l = vec_len l.firsts
