use Rattle.std.proofs.Common.{◌≡◌, ◌++◌, map, drop}
use Rattle.serde_json.specs.View.{view}
use Rattle.wh_commands.specs.Commands.{named}
use Rattle.wh_live_queries.proofs.metadata.named_values.Given as goal

-- what has been written and what the rest is written as are the whole
abbrev pub invariant-loop-name : goal.invariant-loop-name
invariant-loop-name l = map view l.written.items ++ map named (drop l.name-index l.names) ≡ map named l.names
