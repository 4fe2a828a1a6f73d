use Rattle.std.proofs.Common.{◌≡◌, length, map, replicate, vec_len}
use Rattle.wh_crew.specs.Crews.{sources_of}
use Rattle.wh_crew.proofs.crews.setups_of.Given as goal

abbrev pub invariant-loop-handler : goal.invariant-loop-handler
invariant-loop-handler g l = record {
  count : vec_len l.setups ≡ length l.yielded;
  members : map (λ setup. (setup.handler, setup.observer)) l.setups.items ≡ l.yielded;
  sources : map (λ setup. setup.source) l.setups.items ≡ sources_of l.options.names l.normal l.workers (length l.yielded);
  turns : map (λ setup. setup.turns) l.setups.items ≡ replicate (length l.yielded) 18446744073709551615;
}
