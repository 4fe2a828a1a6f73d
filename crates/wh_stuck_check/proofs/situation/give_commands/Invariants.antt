use Rattle.std.proofs.Common.{◌≡◌, drop, map}
use Rattle.wh_possible_runs.specs.Situations.{after_commands}
use Rattle.wh_stuck_check.specs.Private.Seen.{name_seen, situation_seen}
use Rattle.wh_stuck_check.proofs.situation.give_commands.Given as goal

-- the rest comes to what all come to
abbrev pub invariant-loop-command : goal.invariant-loop-command
invariant-loop-command l =
    after_commands (map name_seen l.names) (drop l.command-index l.commands) (situation_seen l.now)
    ≡ after_commands (map name_seen l.names) l.commands (situation_seen l.initial.now)
