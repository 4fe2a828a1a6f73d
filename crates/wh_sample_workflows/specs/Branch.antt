-- The sample Branch.
use Rattle.std.specs.Prelude.{ℕ, ℤ, pos, negsuc, List, [], ◌∷◌, codes, bytes_eq, refl, if◌then◌else◌}
use Rattle.std.specs.Ordering.{int_eq}
use Rattle.wh_workflow.specs.declared.job.ActivityEnd.{ActivityEnd}
use Rattle.wh_workflow.specs.declared.job.ActivityEnd.TheVariants.{Completed}
use Rattle.wh_workflow.specs.declared.command.Command.{Command}
use Rattle.wh_workflow.specs.declared.command.Command.TheVariants.{StartActivity, Ask}
use Rattle.wh_workflow.specs.declared.job.Job.{Job}
use Rattle.wh_workflow.specs.declared.job.Job.TheVariants.{Start, Activity, Version}
use Rattle.wh_workflow.specs.Law.{Program, IsAnswer, IsLawful}
use Rattle.wh_sample_workflows.specs.Endings.{result_or_failure}
use Rattle.wh_workflow.specs.Answering.{none_is_answer, one_is_answer, either_is_answer}
use Rattle.wh_sample_workflows.specs.declared.stateless.NoState.{NoState}

-- the activity for a version
abbrev pub branch_activity : ℤ → List ℕ
branch_activity version = if int_eq version (negsuc 0) then codes "old" else codes "new"

-- the commands that it gives to a job
abbrev pub branch_gives : Job → List Command
branch_gives (Start _ _) = Ask (codes "chg") (negsuc 0) (pos 1) ∷ []
branch_gives (Version change_id version) =
    if bytes_eq change_id (codes "chg") then StartActivity (codes "1") (branch_activity version) [] ∷ [] else []
branch_gives (Activity id end) = if bytes_eq id (codes "1") then result_or_failure (codes "branch") end ∷ [] else []
branch_gives _ = []

-- the workflow as a program
abbrev pub branch : Program NoState
branch = record {
  knows = λ kind. bytes_eq kind (codes "Branch");
  initial = λ _. record {};
  after = λ state _. state;
  gives = λ _ job. branch_gives job;
}

branch_ends : (end : ActivityEnd) → IsAnswer (result_or_failure (codes "branch") end ∷ [])
branch_ends (Completed result) = one_is_answer _ refl
branch_ends _ = one_is_answer _ refl

branch_answers : (job : Job) → IsAnswer (branch_gives job)
branch_answers (Start _ _) = one_is_answer _ refl
branch_answers (Version change_id version) =
    either_is_answer (bytes_eq change_id (codes "chg")) _ _ (one_is_answer _ refl) none_is_answer
branch_answers (Activity id end) = either_is_answer (bytes_eq id (codes "1")) _ _ (branch_ends end) none_is_answer
branch_answers _ = none_is_answer

pub branch_lawful : IsLawful branch
branch_lawful _ job = branch_answers job
