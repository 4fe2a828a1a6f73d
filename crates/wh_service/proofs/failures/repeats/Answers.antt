use Rattle.std.proofs.Common.{◌≡◌, ◌∙◌, ◌+◌, ◌∷◌, [], ap, arith, drop, sym}
use Rattle.std.proofs.lemmas.List.{drop_all, drop_more}
use Rattle.wh_service.specs.Repeats.{repeats}
use Rattle.wh_service.proofs.Counted.{counts, ends}
use Rattle.wh_service.proofs.failures.repeats.Goals as goal

-- the next one does not repeat it
pub returns-then-not-is_repeat : goal.returns-then-not-is_repeat
returns-then-not-is_repeat c =
    let at = c.loop-next in
    let after = c.args.after.now in
    let next = c.next-item.result in
    let rest = drop (at.next-index + 1) after in
    let here : drop at.next-index after ≡ next ∷ rest = drop_more after at.next-index next c.loop-next-test.true ∙ ap (λ y. y ∷ rest) (sym c.next-item.is) in
    let none = ends c.args.one.now next rest (drop at.next-index after) here (sym c.is_repeat.ensures ∙ c.if-not-is_repeat.true) in
    omega (arith, at.invariant.left, none)

-- one more repeats it
pub loop-next-preserved : goal.loop-next-preserved
loop-next-preserved c =
    let at = c.loop-next in
    let after = c.args.after.now in
    let next = c.next-item.result in
    let rest = drop (at.next-index + 1) after in
    let here : drop at.next-index after ≡ next ∷ rest = drop_more after at.next-index next c.loop-next-test.true ∙ ap (λ y. y ∷ rest) (sym c.next-item.is) in
    let more = counts c.args.one.now next rest (drop at.next-index after) here (sym c.is_repeat.ensures ∙ c.if-not-is_repeat.false) in
    record {
      counted = omega (arith, at.invariant.counted);
      left = omega (arith, at.invariant.left, more);
    }

-- all of them do
pub returns : goal.returns
returns c =
    let at = c.loop-next in
    let after = c.args.after.now in
    let none : drop at.next-index after ≡ [] = drop_all at.next-index after (omega (arith, c.loop-next-test.false)) in
    let all = ap (repeats c.args.one.now) none in
    omega (arith, at.invariant.left, all)
