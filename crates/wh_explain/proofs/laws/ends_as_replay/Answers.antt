use Rattle.wh_explain.proofs.Agreeing.{ends_as_replay}
use Rattle.wh_explain.proofs.laws.ends_as_replay.Goals as goal

pub returns : goal.returns
returns g c = ends_as_replay g.W.Workflow.program g.met.W.Workflow.lawful
