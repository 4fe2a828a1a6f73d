use Rattle.std.proofs.Common.{◌≡◌, true, take}
use Rattle.std.specs.List.{list_all}
use Rattle.wh_file_commands.specs.QueryInputs.{is_json}
use Rattle.wh_file_commands.proofs.query_inputs.are_json.Given as goal

-- each word so far is a JSON text
abbrev pub invariant-loop-word : goal.invariant-loop-word
invariant-loop-word l = list_all is_json (take l.word-index l.words) ≡ true
