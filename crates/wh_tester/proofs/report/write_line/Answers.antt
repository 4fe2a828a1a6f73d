use Rattle.std.proofs.Common.{rules}
use Rattle.wh_tester.proofs.report.write_line.Goals as goal

pub returns : goal.returns
returns g c = search rules
