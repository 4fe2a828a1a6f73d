use Rattle.wh_table.specs.Laws as laws
use Rattle.wh_table.proofs.laws.follows_its_table.Goals as goal

pub returns : goal.returns
returns c = laws.follows_its_table
