use Rattle.std.proofs.Common.{rules}
use Rattle.wh_workflow.proofs.pair.PairWorkflow.step.Goals as goal

pub returns-in-Second-clause-state : goal.returns-in-Second-clause-state
returns-in-Second-clause-state g c = search rules

pub returns-in-Second-clause-commands : goal.returns-in-Second-clause-commands
returns-in-Second-clause-commands g c = search rules

pub returns-in-Second-clause-meter : goal.returns-in-Second-clause-meter
returns-in-Second-clause-meter g c = search rules
