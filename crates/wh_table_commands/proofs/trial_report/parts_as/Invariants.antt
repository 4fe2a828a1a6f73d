use Rattle.std.proofs.Common.{◌≡◌, take}
use Rattle.std.specs.Prelude.{string_bytes}
use Rattle.wh_table_commands.specs.TrialReports.{parts_as}
use Rattle.wh_table_commands.proofs.trial_report.parts_as.Given as goal

-- the files so far
abbrev pub invariant-loop-own : goal.invariant-loop-own
invariant-loop-own l = string_bytes l.text ≡ parts_as l.format (take l.own-index l.all)
