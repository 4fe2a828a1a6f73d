-- The sample Racer.
use Rattle.std.specs.Prelude.{ℕ, List, [], ◌∷◌, codes, bytes_eq, refl, if◌then◌else◌}
use Rattle.wh_workflow.specs.declared.job.ActivityEnd.{ActivityEnd}
use Rattle.wh_workflow.specs.declared.job.ActivityEnd.TheVariants.{Completed}
use Rattle.wh_workflow.specs.declared.command.Command.{Command}
use Rattle.wh_workflow.specs.declared.command.Command.TheVariants.{StartActivity, CancelActivity, StartTimer, CancelTimer, Complete}
use Rattle.wh_workflow.specs.declared.job.Job.{Job}
use Rattle.wh_workflow.specs.declared.job.Job.TheVariants.{Start, Activity, TimerFired}
use Rattle.wh_workflow.specs.Law.{Program, IsAnswer, IsLawful}
use Rattle.wh_sample_workflows.specs.Endings.{result_or_failure}
use Rattle.wh_workflow.specs.Answering.{none_is_answer, one_is_answer, two_are_answer, either_is_answer}
use Rattle.wh_workflow.specs.Definitions.{Definitions}
use Rattle.wh_workflow.specs.Queries.{Queries, json_result, unknown_query}
use Rattle.wh_sample_workflows.specs.declared.racer.Phase.{Phase}
use Rattle.wh_sample_workflows.specs.declared.racer.Phase.TheVariants.{Racing, Late, Done}

-- the race begins
abbrev pub race : List Command
race = StartActivity (codes "1") (codes "race") [] ∷ StartTimer (codes "t") 30 ∷ []

-- the timer was faster
abbrev pub lateness : List Command
lateness = CancelActivity (codes "1") ∷ StartTimer (codes "u") 5 ∷ []

-- the activity was faster
abbrev pub ending : ActivityEnd → List Command
ending end = CancelTimer (codes "t") ∷ result_or_failure (codes "race") end ∷ []

-- the commands that it gives to a job
abbrev pub racer_gives : Phase → Job → List Command
racer_gives Racing (Start _ _) = race
racer_gives Racing (TimerFired id) = if bytes_eq id (codes "t") then lateness else []
racer_gives Racing (Activity id end) = if bytes_eq id (codes "1") then ending end else []
racer_gives Late (TimerFired id) = if bytes_eq id (codes "u") then Complete [] ∷ [] else []
racer_gives _ _ = []

-- the phase after a job
abbrev pub racer_after : Phase → Job → Phase
racer_after Racing (TimerFired id) = if bytes_eq id (codes "t") then Late else Racing
racer_after Racing (Activity id _) = if bytes_eq id (codes "1") then Done else Racing
racer_after Late (TimerFired id) = if bytes_eq id (codes "u") then Done else Late
racer_after phase _ = phase

-- the workflow as a program
abbrev pub racer : Program Phase
racer = record {
  knows = λ kind. bytes_eq kind (codes "Racer");
  initial = λ _. Racing;
  after = racer_after;
  gives = racer_gives;
}

endings : (end : ActivityEnd) → IsAnswer (ending end)
endings (Completed result) = two_are_answer _ _ refl refl
endings _ = two_are_answer _ _ refl refl

pub racer_lawful : IsLawful racer
racer_lawful Racing (Start _ _) = two_are_answer _ _ refl refl
racer_lawful Racing (TimerFired id) =
    either_is_answer (bytes_eq id (codes "t")) _ _ (two_are_answer _ _ refl refl) none_is_answer
racer_lawful Racing (Activity id end) =
    either_is_answer (bytes_eq id (codes "1")) _ _ (endings end) none_is_answer
racer_lawful Late (TimerFired id) = either_is_answer (bytes_eq id (codes "u")) _ _ (one_is_answer _ refl) none_is_answer
racer_lawful _ _ = none_is_answer

-- a phase, as a JSON text
abbrev pub phase_text : Phase → List ℕ
phase_text Racing = codes "\"racing\""
phase_text Late = codes "\"late\""
phase_text Done = codes "\"done\""

-- it declares the query `phase`
abbrev pub racer_definitions : Definitions
racer_definitions kind = record { queries = codes "phase" ∷ []; signals = [] }

-- the answer to a query: only `phase` is known
abbrev pub racer_queries : Queries Phase
racer_queries phase query_type input =
    if bytes_eq query_type (codes "phase") then json_result (phase_text phase)
    else unknown_query query_type (codes "phase")
