use Rattle.std.proofs.Common.{◌≡◌, [], drop, map}
use Rattle.wh_possible_runs.specs.Shown.{with_rows}
use Rattle.wh_stuck_check.specs.Private.Seen.{name_seen}
use Rattle.wh_stuck_check.proofs.names.names_of.Given as goal

-- the names so far with those of the rest are all
abbrev pub invariant-loop-row : goal.invariant-loop-row
invariant-loop-row l =
    with_rows (map name_seen l.names.items) (drop l.row-index l.rows) ≡ with_rows [] l.rows
