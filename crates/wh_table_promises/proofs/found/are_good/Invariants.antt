use Rattle.std.proofs.Common.{◌≡◌, true, drop, map}
use Rattle.wh_rows.specs.Deciding.{each}
use Rattle.wh_table_promises.specs.Private.Found.{is_good}
use Rattle.wh_table_lines.specs.Lines.{line_seen}
use Rattle.wh_table_promises.specs.Private.Seen.{turn_seen, config_seen}
use Rattle.wh_table_promises.proofs.found.are_good.Given as goal

-- all are good if the rest is
abbrev pub invariant-loop-one : goal.invariant-loop-one
invariant-loop-one l =
    each (is_good l.rules.tops (map turn_seen l.rules.turns.now) l.budget (map line_seen l.rules.lines.now) (map config_seen l.configs))
    (map config_seen (drop l.one-index l.list)) ≡ true
    → each (is_good l.rules.tops (map turn_seen l.rules.turns.now) l.budget (map line_seen l.rules.lines.now) (map config_seen l.configs))
    (map config_seen l.list) ≡ true
