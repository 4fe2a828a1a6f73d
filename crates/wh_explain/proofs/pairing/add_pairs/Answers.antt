use Rattle.std.proofs.Common.{◌≡◌, ◌∙◌, ◌+◌, ◌-◌, ◌<◌, ◌∷◌, ◌++◌, [], false, true, take, drop, length, length-drop, ap, sym, arith}
use Rattle.std.proofs.lemmas.List.{drop_all, take_all, append-nil}
use Rattle.std.proofs.lemmas.Result.{IfOk-equal, IfOk-weaker}
use Rattle.wh_events.specs.Cuts.{commanded}
use Rattle.wh_explain.specs.Pairings.{pairings}
use Rattle.wh_explain.proofs.Alike.{commanded_next, made_is, one_more}
use Rattle.wh_explain.proofs.pairing.add_pairs.Goals as goal

pub returns-then-index-sent : goal.returns-then-index-sent
returns-then-index-sent c =
    let at = c.loop-event in
    let history = c.args.history.now in
    let event = c.event-item.result in
    let rest = commanded (drop (at.event-index + 1) c.args.events.now) in
    let here = commanded_next c.args.events.now at.event-index event c.loop-event-test.true c.event-item.is (sym c.is_commanded.ensures ∙ c.if-not-is_commanded.false) in
    let none : drop at.index c.args.sent.now ≡ [] = drop_all at.index c.args.sent.now (omega (arith, c.if-index-sent.true)) in
    IfOk-weaker c.add.result _ _ (λ _ made. made_is c.unpaired_event.result _ at.paired.items c.add.new.paired.items c.unpaired_event.ensures made
    ∙ (ap (λ left. at.paired.items ++ pairings history left (event ∷ rest)) (sym none)
    ∙ (ap (λ events. at.paired.items ++ pairings history (drop at.index c.args.sent.now) events) (sym here) ∙ at.invariant.1))) c.add.ensures

pub returns-then-not-names : goal.returns-then-not-names
returns-then-not-names c =
    let at = c.loop-event in
    let history = c.args.history.now in
    let sent = c.args.sent.now in
    let event = c.event-item.result in
    let after = c.add-in-loop-event.new.paired.items in
    let rest = commanded (drop (at.event-index + 1) c.args.events.now) in
    let here = commanded_next c.args.events.now at.event-index event c.loop-event-test.true c.event-item.is (sym c.is_commanded.ensures ∙ c.if-not-is_commanded.false) in
    let held = ap (λ events. at.paired.items ++ pairings history (drop at.index sent) events) (sym here) ∙ at.invariant.1 in
    let within : at.index < length sent = omega (arith, at.invariant.0, c.if-index-sent.false) in
    let added = made_is c.pair.result _ at.paired.items after c.pair.ensures c.in_ok-add.ensures in
    sym (append-nil after)
    ∙ one_more history sent at.index c.index-sent-index.result event rest at.paired.items after _ within c.index-sent-index.is added held false (sym c.if-not-names.true ∙ c.names.ensures)

pub loop-event-preserved : goal.loop-event-preserved
loop-event-preserved c =
    let at = c.loop-event in
    let history = c.args.history.now in
    let sent = c.args.sent.now in
    let event = c.event-item.result in
    let after = c.add-in-loop-event.new.paired.items in
    let rest = commanded (drop (at.event-index + 1) c.args.events.now) in
    let here = commanded_next c.args.events.now at.event-index event c.loop-event-test.true c.event-item.is (sym c.is_commanded.ensures ∙ c.if-not-is_commanded.false) in
    let held = ap (λ events. at.paired.items ++ pairings history (drop at.index sent) events) (sym here) ∙ at.invariant.1 in
    let within : at.index < length sent = omega (arith, at.invariant.0, c.if-index-sent.false) in
    let added = made_is c.pair.result _ at.paired.items after c.pair.ensures c.in_ok-add.ensures in (
      omega (arith, within),
      one_more history sent at.index c.index-sent-index.result event rest at.paired.items after _ within c.index-sent-index.is added held true (sym c.if-not-names.false ∙ c.names.ensures),
    )

pub returns : goal.returns
returns c =
    let at = c.loop-event in
    let none : drop at.event-index c.args.events.now ≡ [] = drop_all at.event-index c.args.events.now (omega (arith, c.loop-event-test.false)) in
    let left = drop at.index c.args.sent.now in
    let all : take (length c.args.sent.now - at.index) left ≡ left = take_all _ left (omega (arith, length-drop at.index c.args.sent.now)) in
    IfOk-equal c.add_extra.result _ _ _ (c.add_extra.ensures c.args.history.now)
    (ap (λ l. at.paired.items ++ pairings c.args.history.now l []) all ∙ (ap (λ events. at.paired.items ++ pairings c.args.history.now left (commanded events)) (sym none) ∙ at.invariant.1))
