use Rattle.std.proofs.Common.{◌∷◌}
use Rattle.serde_json.specs.View.{members_view}
use Rattle.serde_json.proofs.Views.{Entry}
use Rattle.wh_view.proofs.Membered.{member_more, members_end}
use Rattle.wh_view.proofs.members.member_texts.Goals as goal

pub loop-name-preserved : goal.loop-name-preserved
loop-name-preserved c = λ rest are.
    let e : Entry = (c.in-Some.name.now, c.in-Some.value.now) in
    member_more c.loop-name.name-iterator c.next.new.self (members_view c.args.members.now.entries) e _ _ c.loop-name.texts.items _ rest
    c.in-Some.ensures.steps c.as_str.ensures.value c.in_ok-text.ensures c.in_ok-push.ensures.items c.loop-name.invariant are

pub returns : goal.returns
returns c = members_end c.loop-name.name-iterator (members_view c.args.members.now.entries) c.loop-name.texts.items c.in-None.ensures.steps.0 c.loop-name.invariant
