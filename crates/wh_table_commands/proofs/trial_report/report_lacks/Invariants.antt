use Rattle.wh_console.specs.Consoles.{Reported}
use Rattle.wh_table_commands.specs.TrialReports.{lack_lines}
use Rattle.wh_table_commands.proofs.trial_report.report_lacks.Given as goal

-- why the tables so far have no scenario has been reported
abbrev pub invariant-loop-own : goal.invariant-loop-own
invariant-loop-own g l = Reported l.fn.console l.console (lack_lines l.yielded)
