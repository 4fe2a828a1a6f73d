use Rattle.std.proofs.Common.{ap, sym, ◌∙◌}
use Rattle.serde_json.specs.Find.{as_object}
use Rattle.serde_json.specs.View.{view}
use Rattle.serde_json.proofs.Views.{view-Object}
use Rattle.wh_messages.proofs.response.into_members.Goals as goal

pub returns-in-Object : goal.returns-in-Object
returns-in-Object c = sym (ap as_object (ap view c.in-Object.is ∙ view-Object c.in-Object.members))
