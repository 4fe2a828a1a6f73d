use Rattle.std.proofs.Common.{refl}
use Rattle.wh_console.proofs.files.file_name.Goals as goal

pub returns-in-Some : goal.returns-in-Some
returns-in-Some c =
    let around = c.in-Some.ensures.cases in
    (around.1, around.4)

pub returns-in-None : goal.returns-in-None
returns-in-None c = (0, refl)
