use Rattle.std.proofs.Common.{◌≡◌, take}
use Rattle.wh_file_commands.specs.QueryTexts.{payload_lines}
use Rattle.wh_file_commands.proofs.query_texts.payload_lines.Given as goal

-- the lines so far
abbrev pub invariant-loop-payload : goal.invariant-loop-payload
invariant-loop-payload l = l.text.items ≡ payload_lines (take l.payload-index l.payloads)
