use Rattle.std.proofs.Common.{◌≡◌, drop}
use Rattle.wh_rows.specs.Deciding.{asks_within}
use Rattle.wh_table_lines.proofs.counters.asks_within.Given as goal

-- none so far asks for more
abbrev pub invariant-loop-condition : goal.invariant-loop-condition
invariant-loop-condition l =
    asks_within l.tops (drop l.condition-index l.conditions) ≡ asks_within l.tops l.conditions
