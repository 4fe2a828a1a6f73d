use Rattle.std.proofs.Common.{◌≡◌, drop}
use Rattle.wh_table_trial.specs.Trials.{seen, tried}
use Rattle.wh_table_trial.proofs.running.take_entries.Given as goal

-- what comes of the rest is what comes of all
abbrev pub invariant-loop-entry : goal.invariant-loop-entry
invariant-loop-entry l =
    tried l.table (seen l.run) (drop l.entry-index l.entries) ≡ tried l.table (seen l.initial.run) l.entries
