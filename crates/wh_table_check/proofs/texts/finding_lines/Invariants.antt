use Rattle.std.proofs.Common.{◌≡◌, take}
use Rattle.std.specs.Prelude.{string_bytes}
use Rattle.wh_table_check.specs.Texts.{finding_lines}
use Rattle.wh_table_check.proofs.texts.finding_lines.Given as goal

-- the lines so far
abbrev pub invariant-loop-found : goal.invariant-loop-found
invariant-loop-found l = string_bytes l.text ≡ finding_lines l.name l.words (take l.found-index l.list)
