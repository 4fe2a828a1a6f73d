use Rattle.std.proofs.Common.{refl, sym, subst}
use Rattle.wh_times.specs.Sums.{AreSums}
use Rattle.wh_view.proofs.Summed.{typed_same}
use Rattle.wh_view.proofs.reading.with_sums.Goals as goal

pub returns : goal.returns
returns c =
    let sums = c.in_ok-type_sums.field-0.items in
    rw c.new-sums.ensures (record {
      others = refl;
      sums = subst (λ things. AreSums things sums) (sym (typed_same c.args.view sums)) c.in_ok-type_sums.ensures;
    })
