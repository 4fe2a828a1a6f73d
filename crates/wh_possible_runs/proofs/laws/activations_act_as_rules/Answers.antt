use Rattle.wh_possible_runs.proofs.Steps as steps
use Rattle.wh_possible_runs.proofs.laws.activations_act_as_rules.Goals as goal

pub returns-clause-acts : goal.returns-clause-acts
returns-clause-acts c = steps.acts

pub returns-clause-sees : goal.returns-clause-sees
returns-clause-sees c = steps.wells
