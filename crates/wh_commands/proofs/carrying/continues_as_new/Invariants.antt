use Rattle.std.proofs.Common.{◌≡◌, drop}
use Rattle.std.specs.List.{list_any}
use Rattle.wh_commands.specs.CarryingOver.{continues}
use Rattle.wh_commands.proofs.carrying.continues_as_new.Given as goal

-- whether one of the rest does is whether one of all does
abbrev pub invariant-loop-command : goal.invariant-loop-command
invariant-loop-command l = list_any continues (drop l.command-index l.commands) ≡ list_any continues l.commands
