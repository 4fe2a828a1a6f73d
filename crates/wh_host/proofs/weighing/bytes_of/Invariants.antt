use Rattle.std.proofs.Common.{◌≡◌, take}
use Rattle.std.specs.Prelude.{min, sum_by}
use Rattle.wh_host.specs.Weights.{payload_bytes}
use Rattle.wh_host.proofs.weighing.bytes_of.Given as goal

abbrev pub invariant-loop-payload : goal.invariant-loop-payload
invariant-loop-payload l = l.bytes ≡ min (sum_by payload_bytes (take l.payload-index l.payloads)) 0xffff_ffff_ffff_ffff
