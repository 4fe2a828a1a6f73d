use Rattle.std.proofs.Common.{sym, subst}
use Rattle.wh_workflow.specs.Law.{IsAnswer}
use Rattle.wh_table.specs.Program.{opening_answers, given_answers}
use Rattle.wh_table.proofs.workflow.TableWorkflowWorkflow.step.Goals as goal

-- what a start gives is an answer, with a table and without
pub give_all-requires : goal.give_all-requires
give_all-requires c = record { lawful = subst IsAnswer (sym c.in_ok-opened.ensures.given) (opening_answers _ _ _ _) }

-- what a table gives is an answer
pub give_all-requires-2 : goal.give_all-requires-2
give_all-requires-2 c = record { lawful = subst IsAnswer (sym c.in_ok-given.ensures.commands) (given_answers c.args.state.now c.args.job.now) }
