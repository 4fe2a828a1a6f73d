use Rattle.std.proofs.Common.{[], None}
use Rattle.wh_match.specs.Issuing.{context_in}
use Rattle.wh_match.proofs.Counts.{unfaulted}
use Rattle.wh_match.proofs.script.Script.issue.Goals as goal

pub push-requires-clause-unfaulted : goal.push-requires-clause-unfaulted
push-requires-clause-unfaulted c =
    let script = c.args.self.now in
    unfaulted (context_in c.args.track.now script None) [] script.issued c.args.command (c.in-Ok.ensures.fault None [])
