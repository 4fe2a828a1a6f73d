use Rattle.wh_replay.proofs.Counting.{steps_are_scripted, new_steps_are_scripted}
use Rattle.wh_replay.proofs.laws.steps_are_scripted.Goals as goal

pub returns-clause-whole : goal.returns-clause-whole
returns-clause-whole g c = steps_are_scripted g.W.Workflow.program g.met.W.Workflow.lawful

pub returns-clause-new : goal.returns-clause-new
returns-clause-new g c = new_steps_are_scripted g.W.Workflow.program g.met.W.Workflow.lawful
