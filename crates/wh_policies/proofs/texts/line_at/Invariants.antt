use Rattle.std.proofs.Common.{◌≡◌, ◌+◌, take}
use Rattle.std.specs.Prelude.{count_by, eqb}
use Rattle.wh_policies.proofs.texts.line_at.Given as goal

-- the lines that have ended are counted
abbrev pub invariant-loop-byte : goal.invariant-loop-byte
invariant-loop-byte l = l.line ≡ count_by (λ byte. eqb byte 10) (take l.byte-index l.before) + 1
