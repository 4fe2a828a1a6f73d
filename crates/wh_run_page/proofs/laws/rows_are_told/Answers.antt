use Rattle.wh_run_page.proofs.Shares.{rows_add_up, rows_tell_of_their_things}
use Rattle.wh_run_page.proofs.Told.{rows_are_told}
use Rattle.wh_run_page.proofs.laws.rows_are_told.Goals as goal

pub returns-clause-told : goal.returns-clause-told
returns-clause-told c = rows_are_told

pub returns-clause-sum : goal.returns-clause-sum
returns-clause-sum c = rows_add_up

pub returns-clause-things : goal.returns-clause-things
returns-clause-things c = rows_tell_of_their_things
