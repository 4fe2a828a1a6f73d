use Rattle.std.proofs.Common.{◌≡◌, ◌||◌, ◌&&◌, not, drop}
use Rattle.wh_machines.specs.Lookups.{thing_of}
use Rattle.wh_workflow.specs.Scripts.{some_act, act_cancels, left_open}
use Rattle.wh_match.proofs.act.left_open.Given as goal

abbrev pub invariant-loop-command : goal.invariant-loop-command
invariant-loop-command l =
    (left_open (thing_of l.kind) l.id (drop l.command-index l.commands) || (l.open && not (some_act (act_cancels (thing_of l.kind) l.id) (drop l.command-index l.commands)))) ≡ left_open (thing_of l.kind) l.id l.commands
