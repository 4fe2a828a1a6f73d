use Rattle.std.proofs.Common.{rules}
use Rattle.wh_tester.proofs.verdicts.unread_verdict.Goals as goal

pub returns-in_default-clause-exact : goal.returns-in_default-clause-exact
returns-in_default-clause-exact c = search rules
