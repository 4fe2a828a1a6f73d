-- The sample Relay.
use Rattle.std.specs.Prelude.{List, [], ◌∷◌, drop, codes, bytes_eq, refl, if◌then◌else◌}
use Rattle.wh_events.specs.declared.event.Payload.{Payload}
use Rattle.wh_workflow.specs.declared.command.Command.{Command}
use Rattle.wh_workflow.specs.declared.command.Command.TheVariants.{StartTimer, Complete, ContinueAsNew}
use Rattle.wh_workflow.specs.declared.job.Job.{Job}
use Rattle.wh_workflow.specs.declared.job.Job.TheVariants.{Start, TimerFired}
use Rattle.wh_workflow.specs.Law.{Program, IsAnswer, IsLawful}
use Rattle.wh_workflow.specs.Answering.{none_is_answer, one_is_answer, either_is_answer}
use Rattle.wh_sample_workflows.specs.declared.relay.RelayState.{RelayState}

-- the command at the start of a run with this input
abbrev pub relay_start : List Payload → Command
relay_start [] = Complete []
relay_start (payload ∷ left) = StartTimer (codes "leg") 5

-- the commands that it gives to a job
abbrev pub relay_gives : RelayState → Job → List Command
relay_gives state (Start _ input) = relay_start input ∷ []
relay_gives state (TimerFired id) =
    if bytes_eq id (codes "leg") then ContinueAsNew (codes "Relay") state.left ∷ [] else []
relay_gives _ _ = []

-- the state after a job: from the start on, the input of the next run
abbrev pub relay_after : RelayState → Job → RelayState
relay_after state (Start _ input) = record { left = drop 1 input }
relay_after state _ = state

-- the workflow as a program
abbrev pub relay : Program RelayState
relay = record {
  knows = λ kind. bytes_eq kind (codes "Relay");
  initial = λ _. record { left = [] };
  after = relay_after;
  gives = relay_gives;
}

relay_starts : (input : List Payload) → IsAnswer (relay_start input ∷ [])
relay_starts [] = one_is_answer _ refl
relay_starts (payload ∷ left) = one_is_answer _ refl

pub relay_lawful : IsLawful relay
relay_lawful _ (Start _ input) = relay_starts input
relay_lawful state (TimerFired id) = either_is_answer (bytes_eq id (codes "leg")) _ _
    (one_is_answer _ refl) none_is_answer
relay_lawful _ _ = none_is_answer
