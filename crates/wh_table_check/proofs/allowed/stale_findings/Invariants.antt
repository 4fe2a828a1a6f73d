use Rattle.std.proofs.Common.{◌≡◌, take}
use Rattle.wh_table_check.specs.Allowed.{stale_findings}
use Rattle.wh_table_check.proofs.allowed.stale_findings.Given as goal

-- the warnings so far
abbrev pub invariant-loop-text : goal.invariant-loop-text
invariant-loop-text l = l.stale.items ≡ stale_findings l.all (take l.text-index l.texts)
