-- The sample Nap.
use Rattle.std.specs.Prelude.{List, [], ◌∷◌, codes, bytes_eq, refl, if◌then◌else◌}
use Rattle.wh_workflow.specs.declared.command.Command.{Command}
use Rattle.wh_workflow.specs.declared.command.Command.TheVariants.{StartTimer, Complete}
use Rattle.wh_workflow.specs.declared.job.Job.{Job}
use Rattle.wh_workflow.specs.declared.job.Job.TheVariants.{Start, TimerFired}
use Rattle.wh_workflow.specs.Law.{Program, IsAnswer, IsLawful}
use Rattle.wh_workflow.specs.Answering.{none_is_answer, one_is_answer, either_is_answer}
use Rattle.wh_sample_workflows.specs.declared.stateless.NoState.{NoState}

-- the commands that it gives to a job
abbrev pub nap_gives : Job → List Command
nap_gives (Start _ _) = StartTimer (codes "nap") 60 ∷ []
nap_gives (TimerFired id) = if bytes_eq id (codes "nap") then Complete [] ∷ [] else []
nap_gives _ = []

-- the workflow as a program
abbrev pub nap : Program NoState
nap = record {
  knows = λ kind. bytes_eq kind (codes "Nap");
  initial = λ _. record {};
  after = λ state _. state;
  gives = λ _ job. nap_gives job;
}

nap_answers : (job : Job) → IsAnswer (nap_gives job)
nap_answers (Start _ _) = one_is_answer _ refl
nap_answers (TimerFired id) = either_is_answer (bytes_eq id (codes "nap")) _ _ (one_is_answer _ refl) none_is_answer
nap_answers _ = none_is_answer

pub nap_lawful : IsLawful nap
nap_lawful _ job = nap_answers job
