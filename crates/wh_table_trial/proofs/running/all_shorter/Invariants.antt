use Rattle.std.proofs.Common.{◌≡◌, map, take}
use Rattle.wh_table_trial.specs.Trials.{shorter}
use Rattle.wh_table_trial.proofs.running.all_shorter.Given as goal

-- the commands so far
abbrev pub invariant-loop-command : goal.invariant-loop-command
invariant-loop-command l = l.all.items ≡ map (shorter l.table) (take l.command-index l.commands)
