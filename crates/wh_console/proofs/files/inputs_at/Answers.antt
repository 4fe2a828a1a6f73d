use Rattle.std.proofs.Common.{rules}
use Rattle.wh_console.proofs.files.inputs_at.Goals as goal

pub returns-then-is_dir-clause-called : goal.returns-then-is_dir-clause-called
returns-then-is_dir-clause-called g c = search rules
