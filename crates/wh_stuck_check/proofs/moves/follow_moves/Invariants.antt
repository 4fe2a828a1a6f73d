use Rattle.std.proofs.Common.{◌≡◌, drop, map}
use Rattle.wh_row_rules.specs.Broken.{definition}
use Rattle.wh_possible_runs.specs.PossibleRuns.{follow, follow_run}
use Rattle.wh_stuck_check.specs.Verdicts.{move_of, fault_along, last_fault}
use Rattle.wh_stuck_check.specs.Private.Seen.{name_seen, situation_seen}
use Rattle.wh_stuck_check.proofs.moves.follow_moves.Given as goal

-- the rest comes to what all come to
abbrev pub invariant-loop-one : goal.invariant-loop-one
invariant-loop-one l = record {
  follows : follow (definition l.table) (map name_seen l.names) l.now.run (situation_seen l.now.situation)
      (map move_of (drop l.one-index l.moves)) ≡ follow_run (definition l.table) (map name_seen l.names) (map move_of l.moves);
  fault : fault_along (definition l.table) (map name_seen l.names) l.now.run (situation_seen l.now.situation) l.now.fault
      (map move_of (drop l.one-index l.moves)) ≡ last_fault (definition l.table) (map name_seen l.names) (map move_of l.moves);
}
