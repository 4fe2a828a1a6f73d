use Rattle.std.proofs.Common.{sym, ap, ◌∙◌, rules}
use Rattle.wh_replay.specs.Runs.{HistoryView, status_in}
use Rattle.wh_replay.proofs.Showing.{status_found}
use Rattle.wh_replay.proofs.history.ReplayedHistory.status.Goals as goal

pub returns : goal.returns
returns g c =
    let inside = c.self.inside in
    let found = status_found g.W.Workflow.program inside.track inside.replayed.state inside.replayed.versions inside.replayed.unsent.items c.self.invariant c.args.number (search rules) in
    c.status.ensures ∙ (sym found ∙ ap (λ (h : HistoryView). status_in h.machines c.args.number) c.self.view_is)
