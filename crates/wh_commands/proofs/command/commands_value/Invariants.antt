use Rattle.std.proofs.Common.{◌≡◌, [], drop, map}
use Rattle.serde_json.specs.View.{view}
use Rattle.wh_commands.specs.CarryingOver.{carried_seen}
use Rattle.wh_commands.specs.Commands.{written, written_after}
use Rattle.wh_commands.proofs.command.commands_value.Given as goal

-- the rest, written after what has been written, is all
abbrev pub invariant-loop-command : goal.invariant-loop-command
invariant-loop-command l =
    written_after (written l.names l.policies (carried_seen l.carried) l.events) (map view l.values.items) (drop l.command-index l.commands)
    ≡ written_after (written l.names l.policies (carried_seen l.carried) l.events) [] l.commands
