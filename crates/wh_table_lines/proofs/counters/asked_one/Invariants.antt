use Rattle.std.proofs.Common.{◌≡◌, drop}
use Rattle.wh_rows.specs.Deciding.{asked_one}
use Rattle.wh_table_lines.proofs.counters.asked_one.Given as goal

-- the rest asks for what all ask for
abbrev pub invariant-loop-condition : goal.invariant-loop-condition
invariant-loop-condition l =
    asked_one (drop l.condition-index l.conditions) l.tops ≡ asked_one l.conditions l.initial.tops
