use Rattle.std.proofs.Common.{rules}
use Rattle.wh_explain.proofs.findings.explanation_by.Goals as goal

pub returns-in_default-clause-known : goal.returns-in_default-clause-known
returns-in_default-clause-known c = search rules
