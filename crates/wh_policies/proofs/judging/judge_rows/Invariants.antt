use Rattle.std.proofs.Common.{◌≡◌, take, All, None}
use Rattle.wh_policies.proofs.judging.judge_rows.Given as goal

-- no row before has an excess
abbrev pub invariant-loop-row : goal.invariant-loop-row
invariant-loop-row g l = All (λ row. g.P.Policy.excess row.policy ≡ None) (take l.row-index l.rows)
