use Rattle.std.proofs.Common.{refl}
use Rattle.wh_json.proofs.Table.{table_named}
use Rattle.wh_json.proofs.types.own_row.Goals as goal

-- each row is compared with the rule of its type, so that a wrong one is soon refused
pub returns : goal.returns
returns c = table_named _ _ _ _ c.row_in.ensures refl refl
