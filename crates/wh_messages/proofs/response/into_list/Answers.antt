use Rattle.std.proofs.Common.{ap, sym, ◌∙◌}
use Rattle.serde_json.specs.Find.{as_array}
use Rattle.serde_json.specs.View.{view}
use Rattle.serde_json.proofs.Views.{view-Array}
use Rattle.wh_json.proofs.Views.{list_in-some}
use Rattle.wh_messages.proofs.response.into_list.Goals as goal

pub returns-in-Array : goal.returns-in-Array
returns-in-Array c =
    let values = c.in-Array.values in
    list_in-some (view c.args.value) values.items (sym (ap as_array (ap view c.in-Array.is ∙ view-Array values)))
