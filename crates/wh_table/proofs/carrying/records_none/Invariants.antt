use Rattle.std.proofs.Common.{◌≡◌, drop}
use Rattle.wh_workflow.specs.Law.{records_none}
use Rattle.wh_table.proofs.carrying.records_none.Given as goal

-- no command passed so far records a version
abbrev pub invariant-loop-command : goal.invariant-loop-command
invariant-loop-command l = records_none (drop l.command-index l.commands) ≡ records_none l.commands
