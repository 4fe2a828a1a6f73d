use Rattle.std.proofs.Common.{◌+◌, subst, arith}
use Rattle.std.specs.Prelude.{map}
use Rattle.std.proofs.lemmas.List.{take_all}
use Rattle.serde_json.specs.View.{view}
use Rattle.wh_view.specs.Details.{IsValueOf}
use Rattle.wh_view.specs.Each.{Each, none}
use Rattle.wh_view.proofs.Paired.{each_more}
use Rattle.wh_view.proofs.details.value_texts.Goals as goal

pub loop-value-init : goal.loop-value-init
loop-value-init c = rw c.new-texts.ensures.items (none 0)

pub loop-value-preserved : goal.loop-value-preserved
loop-value-preserved c =
    let i = c.loop-value.value-index in
    each_more 0 i i c.args.values.now c.value-item.result c.loop-value.texts.items _ c.in_ok-text.text c.loop-value-test.true c.value-item.is c.in_ok-push.ensures.items c.loop-value.invariant (omega arith) c.in_ok-text.ensures

pub returns : goal.returns
returns c =
    subst (λ vs. Each (λ _. IsValueOf c.args.shorthand) 0 (map view vs) c.loop-value.texts.items) (take_all c.loop-value.value-index c.args.values.now c.loop-value-test.false) c.loop-value.invariant
