use Rattle.wh_cli.proofs.Statuses.{documented}
use Rattle.wh_cli.proofs.program.run_words.Goals as goal
use Rattle.wh_diagnostics.proofs.Answering.{refused}

-- the answer has one of the documented statuses
pub returns-in-Ok-clause-documented : goal.returns-in-Ok-clause-documented
returns-in-Ok-clause-documented g c = documented _ _ _ _ _ _ _ _ c.answer.ensures

-- and 2 if the words ask for no plan
pub returns-in-Ok-clause-refused : goal.returns-in-Ok-clause-refused
returns-in-Ok-clause-refused g c = refused _ _ _ _ _ _ c.answer.ensures
