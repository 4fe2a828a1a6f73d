use Rattle.std.proofs.Common.{◌≡◌, drop, map}
use Rattle.wh_rows.specs.Watches.{turn_for}
use Rattle.wh_rows.specs.Courses.{is_given}
use Rattle.wh_table_promises.specs.Private.Seen.{turn_seen}
use Rattle.wh_table_promises.proofs.ways.given_by.Given as goal

-- no turn passed so far fits
abbrev pub invariant-loop-turn : goal.invariant-loop-turn
invariant-loop-turn l =
    turn_for (map turn_seen (drop l.turn-index l.turns)) (λ what. is_given what l.command) l.now.at
    ≡ turn_for (map turn_seen l.turns) (λ what. is_given what l.command) l.now.at
