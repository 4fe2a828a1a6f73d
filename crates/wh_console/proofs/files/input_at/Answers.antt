use Rattle.std.proofs.Common.{rules}
use Rattle.wh_console.proofs.files.input_at.Goals as goal

pub returns-clause-from : goal.returns-clause-from
returns-clause-from g c = search rules
