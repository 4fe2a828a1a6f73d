use Rattle.std.proofs.Common.{◌≡◌, map, take}
use Rattle.wh_table_trial.specs.Trials.{named}
use Rattle.wh_table_trial.proofs.running.all_named.Given as goal

-- the payloads so far
abbrev pub invariant-loop-payload : goal.invariant-loop-payload
invariant-loop-payload l = l.all.items ≡ map (named l.table) (take l.payload-index l.input)
