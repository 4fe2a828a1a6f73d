use Rattle.wh_diagnostics.proofs.Answering.{refused}
use Rattle.wfhost_tables.proofs.run_words.Goals as goal

-- the answer has 2 if the words ask for no plan
pub returns-in-Ok : goal.returns-in-Ok
returns-in-Ok g c = refused _ _ _ _ _ _ c.answer.ensures
