use Rattle.std.proofs.Common.{refl}
use Rattle.std.specs.Prelude.{codes}
use Rattle.wh_rows.specs.declared.row.Counter.TheVariants as counters
use Rattle.wh_rows.specs.Tables.{seen}
use Rattle.wh_rows.specs.Properties.{StartsActivity}
use Rattle.wh_rows.specs.Followed.{unsuccessful}
use Rattle.wh_rows.proofs.Followed.{each_followed}
use Rattle.row_samples.specs.declared.booking.TheConstants.{BOOKING}
use Rattle.row_samples.proofs.booking.refunds_each_charge.Goals as goal

pub returns : goal.returns
returns c =
    each_followed (seen BOOKING) (StartsActivity (codes "ChargeCard")) (StartsActivity (codes "RefundCard")) unsuccessful
    counters.A refl
