use Rattle.std.proofs.Common.{ap, sym, option_map, ◌∙◌}
use Rattle.serde_json.specs.Find.{get}
use Rattle.serde_json.specs.View.{view}
use Rattle.serde_json.proofs.Views.{view-lookup, view-Object}
use Rattle.wh_messages.proofs.response.take_member.Goals as goal

-- what was removed is what the look-up finds
pub returns-in-Object : goal.returns-in-Object
returns-in-Object c =
    let m = c.in-Object.members in
    ap (option_map view) c.remove.ensures.value ∙ view-lookup c.args.name.now m.entries
    ∙ sym (ap (get c.args.name.now) (ap view c.in-Object.is ∙ view-Object m))
