use Rattle.std.proofs.Common.{◌≡◌, ◌||◌, ◌&&◌, drop}
use Rattle.wh_machines.specs.Lookups.{thing_of}
use Rattle.wh_workflow.specs.Scripts.{some_act, act_cancels, withdrawn}
use Rattle.wh_match.proofs.act.is_withdrawn.Given as goal

abbrev pub invariant-loop-command : goal.invariant-loop-command
invariant-loop-command l =
    ((l.opened && some_act (act_cancels (thing_of l.kind) l.id) (drop l.command-index l.commands)) || withdrawn (thing_of l.kind) l.id (drop l.command-index l.commands)) ≡ withdrawn (thing_of l.kind) l.id l.commands
