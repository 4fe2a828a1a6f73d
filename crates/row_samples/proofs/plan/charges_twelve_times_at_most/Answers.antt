use Rattle.std.proofs.Common.{refl}
use Rattle.std.specs.Prelude.{codes}
use Rattle.wh_rows.specs.declared.row.Counter.TheVariants as counters
use Rattle.wh_rows.specs.Tables.{seen}
use Rattle.wh_rows.specs.Properties.{StartsActivity}
use Rattle.wh_rows.proofs.AtMost.{at_most}
use Rattle.row_samples.specs.declared.plan.TheConstants.{PLAN}
use Rattle.row_samples.proofs.plan.charges_twelve_times_at_most.Goals as goal

pub returns : goal.returns
returns c = at_most (seen PLAN) (StartsActivity (codes "ChargeCard")) counters.A refl
