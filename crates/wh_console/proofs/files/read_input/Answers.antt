use Rattle.std.proofs.Common.{rules}
use Rattle.wh_console.proofs.files.read_input.Goals as goal

pub returns-in-StandardInput-clause-bytes : goal.returns-in-StandardInput-clause-bytes
returns-in-StandardInput-clause-bytes g c = search rules
