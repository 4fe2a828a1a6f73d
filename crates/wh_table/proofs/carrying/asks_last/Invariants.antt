use Rattle.std.proofs.Common.{◌≡◌, drop}
use Rattle.wh_workflow.specs.Law.{asks_last}
use Rattle.wh_table.proofs.Asking.{goes_on}
use Rattle.wh_table.proofs.carrying.asks_last.Given as goal

-- the commands of the rest decide
abbrev pub invariant-loop-command : goal.invariant-loop-command
invariant-loop-command l = goes_on l.asked (drop l.command-index l.commands) ≡ asks_last l.commands
