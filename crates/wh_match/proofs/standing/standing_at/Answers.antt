use Rattle.std.proofs.Common.{ap, ◌∙◌}
use Rattle.wh_machines.specs.Lookups.{events_between}
use Rattle.wh_match.specs.Private.Standings.{standing_by}
use Rattle.wh_match.proofs.AtCut.{standing_absent, standing_told}
use Rattle.wh_match.proofs.standing.standing_at.Goals as goal

pub returns-in_default : goal.returns-in_default
returns-in_default c =
    standing_absent c.args.track.now c.args.previous c.args.cut c.args.kind c.args.id.now c.events-events.ensures.in_place c.get-place.result c.get-place.ensures.kept c.in_default.ensures

pub returns : goal.returns
returns c =
    c.standing_by.ensures
    ∙ ap (λ list. standing_by (events_between list c.args.previous c.get-place.result) c.in-Some.status) c.events-events.ensures.events
    ∙ standing_told c.args.track.now c.args.previous c.args.cut c.args.kind c.args.id.now c.events-events.ensures.in_place c.get-place.result c.get-place.ensures.kept c.in-Some.field-0-0 c.in-Some.status c.in-Some.ensures
