use Rattle.std.proofs.Common.{◌≡◌, OnErr, OnOk, subst, ap, ◌∙◌}
use Rattle.serde_json.specs.View.{view, members_view}
use Rattle.wh_payload_metadata.specs.Header.{Fields, IsEachOldOrSet, fields_set, fields_of}
use Rattle.wh_payload_metadata.proofs.Setting.{event_sets, event_quiet}
use Rattle.wh_payload_metadata.proofs.header.Header.keep_event.Goals as goal

pub returns-in-Some-clause-set : goal.returns-in-Some-clause-set
returns-in-Some-clause-set c =
    let event = view c.args.event.now in
    let old = fields_of c.args.self.now in
    let members = members_view c.in-Some.fields.now.entries in
    let sets = ap (λ n. fields_set n members old) c.number_in.ensures ∙ event_sets event members old c.in-Some.ensures in
    subst (λ (fields : Fields). OnOk c.set_all.result (fields_of c.set_all.new.self ≡ fields)) sets c.set_all.ensures.set

pub returns-in-Some-clause-some : goal.returns-in-Some-clause-some
returns-in-Some-clause-some c =
    let event = view c.args.event.now in
    let old = fields_of c.args.self.now in
    let members = members_view c.in-Some.fields.now.entries in
    let sets = ap (λ n. fields_set n members old) c.number_in.ensures ∙ event_sets event members old c.in-Some.ensures in
    subst (λ (fields : Fields). OnErr c.set_all.result (IsEachOldOrSet old fields (fields_of c.set_all.new.self))) sets c.set_all.ensures.some

pub returns-in-None-clause-set : goal.returns-in-None-clause-set
returns-in-None-clause-set c = event_quiet (view c.args.event.now) (fields_of c.args.self.now) c.in-None.ensures
