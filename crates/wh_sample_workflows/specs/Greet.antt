-- The sample Greet.
use Rattle.std.specs.Prelude.{true, false, List, [], ◌∷◌, codes, bytes_eq, refl, if◌then◌else◌}
use Rattle.wh_workflow.specs.declared.job.ActivityEnd.{ActivityEnd}
use Rattle.wh_workflow.specs.declared.job.ActivityEnd.TheVariants.{Completed, Failed, TimedOut, Canceled}
use Rattle.wh_workflow.specs.declared.command.Command.{Command}
use Rattle.wh_workflow.specs.declared.command.Command.TheVariants.{StartActivity, CancelActivity, Complete, Fail, Cancel}
use Rattle.wh_workflow.specs.declared.job.Job.{Job}
use Rattle.wh_workflow.specs.declared.job.Job.TheVariants.{Start, CancelRequested, Activity}
use Rattle.wh_workflow.specs.Law.{Program, IsAnswer, IsLawful}
use Rattle.wh_workflow.specs.Answering.{none_is_answer, one_is_answer, either_is_answer}
use Rattle.wh_sample_workflows.specs.declared.greet.GreetState.{GreetState}

-- the command that closes the run when its activity ends
abbrev pub greet_end : ActivityEnd → Command
greet_end (Completed result) = Complete result
greet_end Canceled = Cancel
greet_end Failed = Fail (codes "greet")
greet_end TimedOut = Fail (codes "greet")

-- the commands that it gives to a job
abbrev pub greet_gives : GreetState → Job → List Command
greet_gives state (Start _ input) = StartActivity (codes "1") (codes "greet") input ∷ []
greet_gives state CancelRequested = if state.cancellable then CancelActivity (codes "1") ∷ [] else []
greet_gives state (Activity id end) = if bytes_eq id (codes "1") then greet_end end ∷ [] else []
greet_gives _ _ = []

-- the state after a job: after a request to cancel, or the end of the activity, no request is passed on
abbrev pub greet_after : GreetState → Job → GreetState
greet_after state CancelRequested = record { cancellable = false }
greet_after state (Activity id _) = if bytes_eq id (codes "1") then record { cancellable = false } else state
greet_after state _ = state

-- the workflow as a program
abbrev pub greet : Program GreetState
greet = record {
  knows = λ kind. bytes_eq kind (codes "Greet");
  initial = λ _. record { cancellable = true };
  after = greet_after;
  gives = greet_gives;
}

greet_ends : (end : ActivityEnd) → IsAnswer (greet_end end ∷ [])
greet_ends (Completed result) = one_is_answer _ refl
greet_ends Canceled = one_is_answer _ refl
greet_ends Failed = one_is_answer _ refl
greet_ends TimedOut = one_is_answer _ refl

pub greet_lawful : IsLawful greet
greet_lawful state (Start _ input) = one_is_answer _ refl
greet_lawful state CancelRequested = either_is_answer state.cancellable _ _ (one_is_answer _ refl) none_is_answer
greet_lawful state (Activity id end) = either_is_answer (bytes_eq id (codes "1")) _ _ (greet_ends end) none_is_answer
greet_lawful _ _ = none_is_answer
