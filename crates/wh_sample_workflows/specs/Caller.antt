-- The sample Caller.
use Rattle.std.specs.Prelude.{List, [], ◌∷◌, codes, bytes_eq, refl}
use Rattle.wh_workflow.specs.declared.command.Command.{Command}
use Rattle.wh_workflow.specs.declared.command.Command.TheVariants.{SignalExternal, Complete, Fail}
use Rattle.wh_workflow.specs.declared.job.Job.{Job}
use Rattle.wh_workflow.specs.declared.job.Job.TheVariants.{Start, SignalSent, SignalFailed}
use Rattle.wh_workflow.specs.Law.{Program, IsAnswer, IsLawful}
use Rattle.wh_workflow.specs.Answering.{none_is_answer, one_is_answer}
use Rattle.wh_sample_workflows.specs.declared.stateless.NoState.{NoState}

-- the commands that it gives to a job
abbrev pub caller_gives : Job → List Command
caller_gives (Start _ _) = SignalExternal (codes "other") (codes "go") [] ∷ []
caller_gives (SignalSent _ _) = Complete [] ∷ []
caller_gives (SignalFailed _ _) = Fail (codes "signal") ∷ []
caller_gives _ = []

-- the workflow as a program
abbrev pub caller : Program NoState
caller = record {
  knows = λ kind. bytes_eq kind (codes "Caller");
  initial = λ _. record {};
  after = λ state _. state;
  gives = λ _ job. caller_gives job;
}

caller_answers : (job : Job) → IsAnswer (caller_gives job)
caller_answers (Start _ _) = one_is_answer _ refl
caller_answers (SignalSent _ _) = one_is_answer _ refl
caller_answers (SignalFailed _ _) = one_is_answer _ refl
caller_answers _ = none_is_answer

pub caller_lawful : IsLawful caller
caller_lawful _ job = caller_answers job
