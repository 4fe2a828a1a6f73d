use Rattle.std.proofs.Common.{rules}
use Rattle.wh_tester.proofs.json_report.escape_of.Goals as goal

pub returns-in_default : goal.returns-in_default
returns-in_default c = search rules
