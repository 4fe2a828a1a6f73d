use Rattle.wh_console.specs.Consoles.{Reported}
use Rattle.wh_report.specs.Notes.{records_lines}
use Rattle.wh_replay_command.proofs.replay.report_records.Given as goal

-- what stands beside the records so far has been reported
abbrev pub invariant-loop-own : goal.invariant-loop-own
invariant-loop-own g l = Reported l.fn.console l.console (records_lines l.yielded)
