-- The sample Asker.
use Rattle.std.specs.Prelude.{pos, negsuc, List, [], ◌∷◌, codes, bytes_eq, refl}
use Rattle.wh_workflow.specs.declared.command.Command.{Command}
use Rattle.wh_workflow.specs.declared.command.Command.TheVariants.{Ask}
use Rattle.wh_workflow.specs.declared.job.Job.{Job}
use Rattle.wh_workflow.specs.declared.job.Job.TheVariants.{Start, Version}
use Rattle.wh_workflow.specs.Law.{Program, IsAnswer, IsLawful}
use Rattle.wh_workflow.specs.Answering.{none_is_answer, one_is_answer}
use Rattle.wh_sample_workflows.specs.declared.stateless.NoState.{NoState}

-- the commands that it gives to a job
abbrev pub asker_gives : Job → List Command
asker_gives (Start _ _) = Ask (codes "a") (negsuc 0) (pos 1) ∷ []
asker_gives (Version _ _) = Ask (codes "a") (negsuc 0) (pos 1) ∷ []
asker_gives _ = []

-- the workflow as a program
abbrev pub asker : Program NoState
asker = record {
  knows = λ kind. bytes_eq kind (codes "Asker");
  initial = λ _. record {};
  after = λ state _. state;
  gives = λ _ job. asker_gives job;
}

asker_answers : (job : Job) → IsAnswer (asker_gives job)
asker_answers (Start _ _) = one_is_answer _ refl
asker_answers (Version _ _) = one_is_answer _ refl
asker_answers _ = none_is_answer

pub asker_lawful : IsLawful asker
asker_lawful _ job = asker_answers job
