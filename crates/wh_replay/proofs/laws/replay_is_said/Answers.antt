use Rattle.wh_replay.proofs.Passing.{place_fault_first, unknown_type_next, gives_where_all_pass, faulty_where_first_fails, all_cuts_pass, first_cuts_pass}
use Rattle.wh_replay.proofs.laws.replay_is_said.Goals as goal

pub returns-clause-place : goal.returns-clause-place
returns-clause-place g c = place_fault_first g.W.Workflow.program

pub returns-clause-unknown : goal.returns-clause-unknown
returns-clause-unknown g c = unknown_type_next g.W.Workflow.program

pub returns-clause-gives : goal.returns-clause-gives
returns-clause-gives g c = gives_where_all_pass g.W.Workflow.program

pub returns-clause-faulty : goal.returns-clause-faulty
returns-clause-faulty g c = faulty_where_first_fails g.W.Workflow.program

pub returns-clause-all_cuts : goal.returns-clause-all_cuts
returns-clause-all_cuts g c = all_cuts_pass g.W.Workflow.program

pub returns-clause-first_cuts : goal.returns-clause-first_cuts
returns-clause-first_cuts g c = first_cuts_pass g.W.Workflow.program
