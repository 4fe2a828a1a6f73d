-- The sample Family.
use Rattle.std.specs.Prelude.{true, false, ◌&&◌, List, [], ◌∷◌, codes, bytes_eq, refl, if◌then◌else◌}
use Rattle.wh_workflow.specs.declared.job.ChildEnd.{ChildEnd}
use Rattle.wh_workflow.specs.declared.job.ChildEnd.TheVariants.{Completed, Canceled}
use Rattle.wh_workflow.specs.declared.command.Command.{Command}
use Rattle.wh_workflow.specs.declared.command.Command.TheVariants.{StartChild, CancelChild, Complete, Fail, Cancel}
use Rattle.wh_workflow.specs.declared.job.Job.{Job}
use Rattle.wh_workflow.specs.declared.job.Job.TheVariants.{Start, Signal, Child}
use Rattle.wh_workflow.specs.Law.{Program, IsAnswer, IsLawful}
use Rattle.wh_workflow.specs.Answering.{none_is_answer, one_is_answer, either_is_answer}
use Rattle.wh_sample_workflows.specs.declared.family.FamilyState.{FamilyState}

-- the command that closes the run when its child ends
abbrev pub family_end : ChildEnd → Command
family_end (Completed result) = Complete result
family_end Canceled = Cancel
family_end _ = Fail (codes "kid")

-- the commands that it gives to a job
abbrev pub family_gives : FamilyState → Job → List Command
family_gives state (Start _ _) = StartChild (codes "kid") (codes "Nap") [] ∷ []
family_gives state (Signal name _) =
    if bytes_eq name (codes "stop") && state.cancellable then CancelChild (codes "kid") ∷ [] else []
family_gives state (Child workflow_id end) = if bytes_eq workflow_id (codes "kid") then family_end end ∷ [] else []
family_gives _ _ = []

-- the state after a job: after the signal `stop`, or the end of the child, the child is not canceled any more
abbrev pub family_after : FamilyState → Job → FamilyState
family_after state (Signal name _) = if bytes_eq name (codes "stop") then record { cancellable = false } else state
family_after state (Child workflow_id _) =
    if bytes_eq workflow_id (codes "kid") then record { cancellable = false } else state
family_after state _ = state

-- the workflow as a program
abbrev pub family : Program FamilyState
family = record {
  knows = λ kind. bytes_eq kind (codes "Family");
  initial = λ _. record { cancellable = true };
  after = family_after;
  gives = family_gives;
}

family_ends : (end : ChildEnd) → IsAnswer (family_end end ∷ [])
family_ends (Completed result) = one_is_answer _ refl
family_ends Canceled = one_is_answer _ refl
family_ends _ = one_is_answer _ refl

pub family_lawful : IsLawful family
family_lawful state (Start _ _) = one_is_answer _ refl
family_lawful state (Signal name _) =
    either_is_answer (bytes_eq name (codes "stop") && state.cancellable) _ _ (one_is_answer _ refl) none_is_answer
family_lawful state (Child workflow_id end) =
    either_is_answer (bytes_eq workflow_id (codes "kid")) _ _ (family_ends end) none_is_answer
family_lawful _ _ = none_is_answer
