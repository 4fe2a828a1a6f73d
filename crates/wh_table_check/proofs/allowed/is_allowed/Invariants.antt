use Rattle.std.proofs.Common.{◌≡◌, drop}
use Rattle.wh_table_check.specs.Allowed.{is_allowed}
use Rattle.wh_table_check.proofs.allowed.is_allowed.Given as goal

-- no text passed so far allows it
abbrev pub invariant-loop-text : goal.invariant-loop-text
invariant-loop-text l = is_allowed (drop l.text-index l.texts) l.found ≡ is_allowed l.texts l.found
