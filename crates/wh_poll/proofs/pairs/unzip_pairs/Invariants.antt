use Rattle.std.proofs.Common.{◌≡◌, ◌+◌, ◌≤◌, ◌++◌, map, reverse, vec_len, vec_capacity}
use Rattle.wh_poll.proofs.pairs.unzip_pairs.Given as goal

abbrev pub invariant-loop-first : goal.invariant-loop-first
invariant-loop-first g l = record {
  firsts : map (λ pair. pair.0) l.pairs.items ++ reverse l.firsts.items ≡ map (λ pair. pair.0) l.fn.pairs.items;
  seconds : map (λ pair. pair.1) l.pairs.items ++ reverse l.seconds.items ≡ map (λ pair. pair.1) l.fn.pairs.items;
  room : vec_len l.firsts + vec_len l.pairs ≤ vec_capacity l.firsts;
  same : vec_capacity l.firsts ≡ vec_capacity l.fn.room.0;
  more : vec_len l.seconds + vec_len l.pairs ≤ vec_capacity l.seconds;
}

abbrev pub decreases-loop-first : goal.decreases-loop-first
decreases-loop-first g l = vec_len l.pairs
