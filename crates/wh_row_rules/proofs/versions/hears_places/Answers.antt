use Rattle.std.proofs.Common.{sym, ◌∙◌}
use Rattle.wh_row_rules.proofs.Hearing.{hears_next, hears_stops, hears_all}
use Rattle.wh_row_rules.proofs.versions.hears_places.Goals as goal

pub loop-place-preserved : goal.loop-place-preserved
loop-place-preserved c =
    sym (hears_next c.args.change.now c.args.name.now c.args.rows.now c.args.end c.loop-place.place c.loop-place-test.true
    (sym c.hears_place.ensures ∙ c.if-not-hears_place.false))
    ∙ c.loop-place.invariant

pub returns-then-not-hears_place : goal.returns-then-not-hears_place
returns-then-not-hears_place c =
    sym (hears_stops c.args.change.now c.args.name.now c.args.rows.now c.args.end c.loop-place.place c.loop-place-test.true
    (sym c.hears_place.ensures ∙ c.if-not-hears_place.true))
    ∙ c.loop-place.invariant

pub returns : goal.returns
returns c =
    sym (hears_all c.args.change.now c.args.name.now c.args.rows.now c.args.end c.loop-place.place c.loop-place-test.false)
    ∙ c.loop-place.invariant
