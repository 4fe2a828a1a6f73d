use Rattle.std.proofs.Common.{◌≡◌, drop}
use Rattle.wh_table_check.specs.Allowed.{is_stale}
use Rattle.wh_table_check.proofs.allowed.is_stale.Given as goal

-- no finding passed so far is worded so
abbrev pub invariant-loop-found : goal.invariant-loop-found
invariant-loop-found l = is_stale (drop l.found-index l.all) l.text ≡ is_stale l.all l.text
