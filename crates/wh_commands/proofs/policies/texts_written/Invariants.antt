use Rattle.std.proofs.Common.{◌≡◌, ◌++◌, map, drop}
use Rattle.serde_json.specs.Data.{string}
use Rattle.serde_json.specs.View.{view}
use Rattle.wh_commands.proofs.policies.texts_written.Given as goal

-- what has been written and what the rest is written as are the whole
abbrev pub invariant-loop-text : goal.invariant-loop-text
invariant-loop-text l = map view l.values.items ++ map string (drop l.text-index l.texts) ≡ map string l.texts
