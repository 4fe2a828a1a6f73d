use Rattle.std.proofs.Common.{◌≡◌, take}
use Rattle.std.specs.Prelude.{string_bytes}
use Rattle.wh_table_check.specs.Texts.{after_commas}
use Rattle.wh_table_check.proofs.texts.after_commas.Given as goal

-- the objects so far
abbrev pub invariant-loop-found : goal.invariant-loop-found
invariant-loop-found l = string_bytes l.text ≡ after_commas (take l.found-index l.list)
