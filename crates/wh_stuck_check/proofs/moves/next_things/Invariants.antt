use Rattle.std.proofs.Common.{◌≡◌, ◌++◌, List, drop, map, Some}
use Rattle.wh_possible_runs.specs.declared.thing.ThingState.{ThingState}
use Rattle.wh_possible_runs.specs.Situations.{next_things}
use Rattle.wh_stuck_check.specs.Private.Seen.{name_seen}
use Rattle.wh_stuck_check.proofs.moves.next_things.Given as goal

-- the things so far and what the rest comes to are all
abbrev pub invariant-loop-place : goal.invariant-loop-place
invariant-loop-place l =
    (rest : List ThingState)
    → next_things (map name_seen (drop l.place l.names)) (drop l.place l.ended) (drop l.place l.things) ≡ Some rest
    → next_things (map name_seen l.names) l.ended l.things ≡ Some (l.next.items ++ rest)
