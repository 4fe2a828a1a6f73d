use Rattle.std.proofs.Common.{◌≡◌, ◌+◌, ◌≤◌, drop}
use Rattle.wh_table_commands.specs.TrialReports.{good_count}
use Rattle.wh_table_commands.proofs.trial_report.good_count.Given as goal

-- those so far and those of the rest are all
abbrev pub invariant-loop-own : goal.invariant-loop-own
invariant-loop-own l = record {
  all : l.count + good_count (drop l.own-index l.all) ≡ good_count l.all;
  few : l.count ≤ l.own-index;
}
