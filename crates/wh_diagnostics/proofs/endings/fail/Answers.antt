use Rattle.std.proofs.Common.{refl, rules}
use Rattle.wh_diagnostics.proofs.Reporting.{nothing_said, why_said}
use Rattle.wh_diagnostics.proofs.endings.fail.Goals as goal

-- nothing is reported on a closed pipe
pub returns-then-is_closed_pipe : goal.returns-then-is_closed_pipe
returns-then-is_closed_pipe g c = record {
  reported = nothing_said c.args.console.now c.args.failure c.args.console.now.closed (search rules);
  ends = refl;
}

-- and else why there is no full report
pub returns-else-is_closed_pipe : goal.returns-else-is_closed_pipe
returns-else-is_closed_pipe g c = record {
  reported = why_said c.args.console.now c.report.new.self c.args.failure c.report.new.self.closed (search rules) c.report.ensures;
  ends = refl;
}
