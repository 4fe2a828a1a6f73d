use Rattle.wh_possible_runs.proofs.Rules as rules_proof
use Rattle.wh_possible_runs.proofs.laws.machines_follow_rules.Goals as goal

pub returns : goal.returns
returns c = rules_proof.follows
