use Rattle.wh_replay.proofs.Ending.{is_replayed}
use Rattle.wh_replay.proofs.history.ReplayedHistory.invariant.Goals as goal

pub returns : goal.returns
returns g c =
    let inside = c.self.inside in
    rw (← c.self.view_is) (is_replayed g.W.Workflow.program inside.track inside.replayed.state inside.replayed.versions inside.replayed.unsent.items c.self.invariant)
