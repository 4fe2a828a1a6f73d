use Rattle.std.proofs.Common.{◌≡◌, ◌++◌, map, drop}
use Rattle.serde_json.specs.View.{view}
use Rattle.wh_commands.specs.Payloads.{payload_written}
use Rattle.wh_commands.proofs.payload.payloads_value.Given as goal

-- what has been written and what the rest is written as are the whole
abbrev pub invariant-loop-payload : goal.invariant-loop-payload
invariant-loop-payload l =
    map view l.written.items ++ map payload_written (drop l.payload-index l.payloads) ≡ map payload_written l.payloads
