use Rattle.std.proofs.Common.{ap, sym, codes, option_map, ◌∙◌}
use Rattle.serde_json.specs.Find.{get}
use Rattle.serde_json.specs.View.{view}
use Rattle.serde_json.proofs.Views.{view-lookup, view-Object}
use Rattle.wh_rpc.proofs.response.result_in.Goals as goal

-- what was removed is what the look-up finds
pub returns-in-Object : goal.returns-in-Object
returns-in-Object c =
    let m = c.in-Object.members in
    ap (option_map view) c.remove.ensures.value ∙ view-lookup (codes "result") m.entries
    ∙ sym (ap (get (codes "result")) (ap view c.in-Object.is ∙ view-Object m))
