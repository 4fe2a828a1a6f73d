use Rattle.wh_possible_histories.proofs.Brought as brought
use Rattle.wh_possible_histories.proofs.laws.checked_tables_never_stick.Goals as goal

pub returns : goal.returns
returns c = brought.checked_tables_never_stick
