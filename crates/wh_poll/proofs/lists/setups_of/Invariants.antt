use Rattle.std.proofs.Common.{◌≡◌, ◌+◌, ◌≤◌, ◌++◌, map, reverse, vec_len, vec_capacity}
use Rattle.wh_poll.proofs.lists.setups_of.Given as goal

abbrev pub invariant-loop-source : goal.invariant-loop-source
invariant-loop-source g l = record {
  sources : l.sources.items ++ reverse (map (λ setup. setup.source) l.setups.items) ≡ l.fn.sources.items;
  turns : l.turns.items ++ reverse (map (λ setup. setup.turns) l.setups.items) ≡ l.fn.turns.items;
  handlers : l.handlers.items ++ reverse (map (λ setup. setup.handler) l.setups.items) ≡ l.fn.handlers.items;
  beside : vec_len l.handlers ≡ vec_len l.sources;
  counts : vec_len l.turns ≡ vec_len l.sources;
  all : vec_len l.setups + vec_len l.sources ≡ vec_len l.fn.sources;
  room : vec_len l.setups + vec_len l.sources ≤ vec_capacity l.setups;
}

abbrev pub decreases-loop-source : goal.decreases-loop-source
decreases-loop-source g l = vec_len l.sources
