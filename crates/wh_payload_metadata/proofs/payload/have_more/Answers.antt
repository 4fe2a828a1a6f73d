use Rattle.std.proofs.Common.{◌≡◌, Some, false, option_map, unwrap_or, ap, ◌∙◌}
use Rattle.serde_json.specs.View.{view, members_view}
use Rattle.serde_json.specs.Find.{as_object}
use Rattle.wh_payload_metadata.specs.Payloads.{have_other}
use Rattle.wh_payload_metadata.proofs.payload.have_more.Goals as goal

pub returns-in-Some : goal.returns-in-Some
returns-in-Some c =
    let found : Some (members_view c.in-Some.members.now.entries) ≡ as_object (view c.args.metadata.now) = c.in-Some.ensures in
    c.have_other.ensures ∙ ap (λ ms. unwrap_or (option_map have_other ms) false) found
