use Rattle.std.proofs.Common.{Some, codes, ap, ◌∙◌}
use Rattle.serde_json.specs.Data.{object, no_members, member, put}
use Rattle.serde_json.specs.View.{view, members_view}
use Rattle.serde_json.specs.declared.value.Value.{Object}
use Rattle.serde_json.proofs.Views.{view-Object}
use Rattle.wh_payload_metadata.specs.Header.{header_of, members_of}
use Rattle.wh_payload_metadata.proofs.Setting.{none_if, some_if}
use Rattle.wh_payload_metadata.proofs.header.Header.to_value.Goals as goal

pub returns-then-is_empty : goal.returns-then-is_empty
returns-then-is_empty c = none_if (header_of c.args.self.now) c.if-is_empty.ensures

pub returns : goal.returns
returns c =
    let members = c.in_ok-members.members in
    let inside = view-Object members ∙ ap object c.in_ok-members.ensures in
    ap Some (view-Object c.put.new.map
    ∙ ap object (c.in_ok-put.ensures.ok
    ∙ ap (λ es. put (codes "fields") (view (Object members)) (members_view es)) c.new-header.ensures.empty
    ∙ ap (λ d. member (codes "fields") d no_members) inside))
    ∙ some_if (members_of c.args.self.now.fields.entries) c.if-is_empty.ensures
