use Rattle.wh_possible_histories.proofs.Brought as brought
use Rattle.wh_possible_histories.proofs.laws.brought_tables_never_stick.Goals as goal

pub returns : goal.returns
returns c = brought.brought_tables_never_stick
