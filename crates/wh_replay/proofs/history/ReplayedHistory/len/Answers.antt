use Rattle.std.proofs.Common.{◌≡◌, length, arith, rules}
use Rattle.wh_replay.proofs.Ending.{is_replayed}
use Rattle.wh_replay.proofs.history.ReplayedHistory.len.Goals as goal

pub returns-clause-most : goal.returns-clause-most
returns-clause-most g c =
    let inside = c.self.inside in
    let most = (is_replayed g.W.Workflow.program inside.track inside.replayed.state inside.replayed.versions inside.replayed.unsent.items c.self.invariant).most in
    let is : c.len.result ≡ length inside.track = search rules in
    omega (arith, most, is)
