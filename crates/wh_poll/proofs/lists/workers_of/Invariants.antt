use Rattle.std.proofs.Common.{◌≡◌, ◌+◌, ◌≤◌, ◌++◌, map, reverse, vec_len, vec_capacity}
use Rattle.wh_poll.specs.Lists.{worker_of}
use Rattle.wh_poll.proofs.lists.workers_of.Given as goal

-- the ends that are left, and the workers so far, from the last to the first
abbrev pub invariant-loop-end : goal.invariant-loop-end
invariant-loop-end g l = record {
  workers : map worker_of l.ended.items ++ reverse (map (λ worker. worker) l.workers.items) ≡ map worker_of l.fn.ended.items;
  room : vec_len l.workers + vec_len l.ended ≤ vec_capacity l.workers;
}

abbrev pub decreases-loop-end : goal.decreases-loop-end
decreases-loop-end g l = vec_len l.ended
