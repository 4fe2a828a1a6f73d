use Rattle.std.proofs.Common.{◌≤◌, [], length, subst, sym, append-nil}
use Rattle.std.proofs.lemmas.List.{drop_all}
use Rattle.toml.specs.View.{items_view}
use Rattle.wh_policies.specs.Retries.{AreTexts}
use Rattle.wh_policies.proofs.retries.texts_of.Goals as goal

-- nothing is left
pub returns : goal.returns
returns c =
    let values = c.args.values.now.items in
    let left = drop_all c.loop-value.value-index values (subst (λ vs. length vs ≤ c.loop-value.value-index) c.deref-value-items.ensures.value c.loop-value-test.false) in
    subst (AreTexts (items_view values)) (append-nil c.loop-value.texts.items)
    (c.loop-value.invariant [] (subst (λ vs. AreTexts (items_view vs) []) (sym left) tt))
