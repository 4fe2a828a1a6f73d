use Rattle.std.proofs.Common.{◌≡◌, drop}
use Rattle.wh_machines.specs.Lookups.{thing_of}
use Rattle.wh_workflow.specs.Scripts.{some_act, act_opens}
use Rattle.wh_match.proofs.act.some_opens.Given as goal

abbrev pub invariant-loop-command : goal.invariant-loop-command
invariant-loop-command l = some_act (act_opens (thing_of l.kind) l.id) (drop l.command-index l.commands) ≡ some_act (act_opens (thing_of l.kind) l.id) l.commands
