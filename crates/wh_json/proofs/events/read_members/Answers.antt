use Rattle.std.proofs.Common.{sym, ap, ◌∙◌, ◌+◌, map, drop, Some}
use Rattle.std.proofs.lemmas.Result.{err_from_is_err_and}
use Rattle.serde_json.specs.View.{view}
use Rattle.wh_json.specs.Outcome.{all_of}
use Rattle.wh_json.specs.Events.{members_from}
use Rattle.wh_json.proofs.Outcomes.{with_front, member_on, member_stops, members_all}
use Rattle.wh_json.proofs.events.read_members.Goals as goal

pub loop-index-preserved : goal.loop-index-preserved
loop-index-preserved c =
    let i = c.loop-index.index in
    let event = c.in_ok-event.event in
    ap (λ events. with_front events (all_of (members_from (i + 1 + 1) (Some event.number) (map view (drop (i + 1) c.args.members.now))))) c.in_ok-push.ensures.items
    ∙ sym (member_on c.loop-index.events.items c.loop-index.before c.args.members.now i c.index-members-index.result event c.loop-index-test.true c.index-members-index.is c.in_ok-event.ensures.exact c.in_ok-event.ensures.number)
    ∙ c.loop-index.invariant

pub returns : goal.returns
returns c = sym c.loop-index.invariant ∙ members_all c.loop-index.events.items _ c.loop-index.before c.args.members.now c.loop-index.index c.loop-index-test.false

pub returns-in_err-event : goal.returns-in_err-event
returns-in_err-event c =
    let p = err_from_is_err_and c.from_residual.result c.from_residual.ensures.1 in
    rw (p.1, p.2) (λ memory. sym c.loop-index.invariant ∙ member_stops c.loop-index.events.items c.loop-index.before c.args.members.now c.loop-index.index c.index-members-index.result c.in_err-event.field-0.0 c.loop-index-test.true c.index-members-index.is (c.in_err-event.ensures.exact memory))
