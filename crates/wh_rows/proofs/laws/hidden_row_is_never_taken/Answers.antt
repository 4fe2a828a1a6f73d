use Rattle.wh_rows.proofs.Hiding.{hidden_is_never_taken}
use Rattle.wh_rows.proofs.laws.hidden_row_is_never_taken.Goals as goal

pub returns : goal.returns
returns c = hidden_is_never_taken
