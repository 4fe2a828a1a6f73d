use Rattle.std.proofs.Common.{◌≡◌, false, sym, subst, ◌∙◌}
use Rattle.wh_possible_runs.specs.Situations.{is_named}
use Rattle.wh_stuck_check.specs.declared.names.ThingName.{ThingName as NameHeld}
use Rattle.wh_stuck_check.specs.Private.Seen.{name_seen}
use Rattle.wh_stuck_check.proofs.Stating.{state_on}
use Rattle.wh_stuck_check.proofs.fault.state_of.Goals as goal

pub loop-place-preserved : goal.loop-place-preserved
loop-place-preserved c =
    let other : is_named c.args.thing c.args.id.now (name_seen c.index-names-place.result) ≡ false =
    sym c.is_named.ensures ∙ c.if-is_named.false in
    state_on c.args.thing c.args.id.now c.args.names.now c.args.things.now c.loop-place.place c.index-names-place.result
    c.loop-place-test.true c.if-things-place.false
    (subst (λ (name : NameHeld). is_named c.args.thing c.args.id.now (name_seen name) ≡ false) c.index-names-place.is other)
    ∙ c.loop-place.invariant
