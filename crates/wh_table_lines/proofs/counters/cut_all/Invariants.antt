use Rattle.std.proofs.Common.{◌≡◌, drop}
use Rattle.wh_rows.specs.Deciding.{cut_all}
use Rattle.wh_table_lines.proofs.counters.cut_all.Given as goal

-- the rest leaves what all leave
abbrev pub invariant-loop-effect : goal.invariant-loop-effect
invariant-loop-effect l =
    cut_all l.tops (drop l.effect-index l.effects) l.counts ≡ cut_all l.tops l.effects l.initial.counts
