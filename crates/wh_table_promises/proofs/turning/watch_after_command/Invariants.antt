use Rattle.std.proofs.Common.{◌≡◌, drop, map}
use Rattle.wh_rows.specs.Deciding.{is_by}
use Rattle.wh_rows.specs.Watches.{turn_for}
use Rattle.wh_table_promises.specs.Private.Seen.{turn_seen}
use Rattle.wh_table_promises.proofs.turning.watch_after_command.Given as goal

-- no turn passed so far fits
abbrev pub invariant-loop-turn : goal.invariant-loop-turn
invariant-loop-turn l =
    turn_for (map turn_seen (drop l.turn-index l.turns)) (λ what. is_by what l.template) l.now.at
    ≡ turn_for (map turn_seen l.turns) (λ what. is_by what l.template) l.now.at
