use Rattle.std.proofs.Common.{codes, ap, sym, ◌∙◌}
use Rattle.serde_json.specs.Data.{object}
use Rattle.serde_json.specs.View.{view, members_view}
use Rattle.serde_json.proofs.Views.{view-Object}
use Rattle.wh_live_queries.specs.Waiting.{without_history}
use Rattle.wh_live_queries.proofs.Removal.{removed}
use Rattle.wh_live_queries.proofs.queue.without_history.Goals as goal

pub returns-in-Object : goal.returns-in-Object
returns-in-Object c =
    let old = c.in-Object.members in
    let new = c.remove.new.self in
    view-Object new ∙ ap (λ es. object (members_view es)) c.remove.ensures.entries ∙ ap object (removed (codes "history") old.entries)
    ∙ sym (ap without_history (ap view c.in-Object.is ∙ view-Object old))
