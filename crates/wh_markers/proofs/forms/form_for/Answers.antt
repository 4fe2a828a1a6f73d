use Rattle.std.proofs.Common.{refl}
use Rattle.wh_markers.proofs.Table.{table_is}
use Rattle.wh_markers.proofs.forms.form_for.Goals as goal

pub returns : goal.returns
returns c = table_is _ _ _ _ c.form_in.ensures refl
