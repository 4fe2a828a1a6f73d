use Rattle.std.proofs.Common.{◌≡◌, map}
use Rattle.std.specs.Prelude.{All}
use Rattle.wh_service.specs.Services.{HasItsTurns}
use Rattle.wh_service.proofs.service.service_setups.Given as goal

-- the sources of the setups so far, and turns for all of their tasks
abbrev pub invariant-loop-source : goal.invariant-loop-source
invariant-loop-source l = record {
  sources : map (λ setup. setup.source) l.setups.items ≡ l.yielded;
  turns : All HasItsTurns l.setups.items;
}
