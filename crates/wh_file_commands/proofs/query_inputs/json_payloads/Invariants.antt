use Rattle.std.proofs.Common.{◌≡◌, map, take}
use Rattle.wh_workflow.specs.Queries.{json_payload}
use Rattle.wh_file_commands.proofs.query_inputs.json_payloads.Given as goal

-- the payloads of the words so far
abbrev pub invariant-loop-word : goal.invariant-loop-word
invariant-loop-word l = l.payloads.items ≡ map json_payload (take l.word-index l.words)
