use Rattle.wh_table.specs.Laws as laws
use Rattle.wh_table.proofs.laws.fails_without_table.Goals as goal

pub returns : goal.returns
returns c = laws.fails_without_table
