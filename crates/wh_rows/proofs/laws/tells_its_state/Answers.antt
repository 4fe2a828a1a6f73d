use Rattle.wh_rows.proofs.Telling.{tells_its_state}
use Rattle.wh_rows.proofs.laws.tells_its_state.Goals as goal

pub returns : goal.returns
returns c = tells_its_state
