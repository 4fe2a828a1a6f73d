use Rattle.std.proofs.Common.{◌≡◌, ◌∙◌, sym, ap, subst}
use Rattle.wh_times.specs.Sums.{IsSumOf, of_type, is_first, opens_first}
use Rattle.wh_times.proofs.Summed.{more_first, more_other}
use Rattle.wh_times.proofs.sums.sums_of.Goals as goal
use Rattle.wh_times.proofs.sums.sums_of.Goals.{then-is_first+in_ok-sum_of+in_ok-push, else-is_first}

pub loop-typed-preserved : goal.loop-typed-preserved
loop-typed-preserved c =
    let things = c.args.things.now in
    let typed = c.typed-item.result in
    let own : c.own_of-own.result.now ≡ of_type typed.type_name things =
    c.own_of-own.ensures ∙ c.in_ok-groups.ensures c.get.result.now ∙ ap (λ name. of_type name things) c.get.ensures in
    let first : c.is_first.result ≡ is_first things typed = c.is_first.ensures ∙ ap (λ all. opens_first all typed.thing.opened) own in
    elim c.if-is_first.branch [
      | then-is_first+in_ok-sum_of+in_ok-push w ↦
          rw (w.all-is, w.in_ok-push.ensures.items) (more_first things c.loop-typed.typed-index typed _ _ c.loop-typed-test.true c.typed-item.is
          (sym first ∙ w.if-is_first.true) (subst (λ all. IsSumOf typed.thing.opened all w.in_ok-sum_of.field-0) own w.in_ok-sum_of.ensures) c.loop-typed.invariant)
      | else-is_first w ↦
          rw w.all-is (more_other things c.loop-typed.typed-index typed _ c.loop-typed-test.true c.typed-item.is
          (sym first ∙ w.if-is_first.false) c.loop-typed.invariant)
    ]
