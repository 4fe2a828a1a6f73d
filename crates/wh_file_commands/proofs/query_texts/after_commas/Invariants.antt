use Rattle.std.proofs.Common.{◌≡◌, take}
use Rattle.wh_file_commands.specs.QueryTexts.{after_commas}
use Rattle.wh_file_commands.proofs.query_texts.after_commas.Given as goal

-- the text so far
abbrev pub invariant-loop-payload : goal.invariant-loop-payload
invariant-loop-payload l = l.text.items ≡ after_commas (take l.payload-index l.payloads)
