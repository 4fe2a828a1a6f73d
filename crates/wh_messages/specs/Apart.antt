-- No two different answers are written alike.
use Rattle.std.specs.Prelude.{◌≡◌, ◌≢◌, ℕ, Bool, List, [], ◌∷◌, Option, Ok, ⊤}
use Rattle.serde_json.specs.Data.{Data, Members}
use Rattle.wh_events.specs.declared.event.Event.{Event}
use Rattle.wh_events.specs.declared.event.Payload.{Payload}
use Rattle.wh_workflow.specs.declared.command.Command.{Command}
use Rattle.wh_policies.specs.declared.policies.Policies.{Policies}
use Rattle.wh_commands.specs.declared.names.WorkerNames.{WorkerNames}
use Rattle.wh_commands.specs.CarryingOver.{Carried}
use Rattle.wh_messages.specs.declared.request.FailedCause.{FailedCause}
use Rattle.wh_messages.specs.Requests.{workflow_completed, workflow_failed, activity_completed, activity_failed}
use Rattle.wh_commands.specs.ReadBack.{IsSent, IsHistory, HaveBytes}

-- commands that a program can hold
abbrev pub AreSent : List Command → Type 0
AreSent [] = ⊤
AreSent (command ∷ commands) = IsSent command × AreSent commands

-- two completions that are written alike have one token, the same commands and the same results of queries
abbrev pub CompletionsDiffer : Type 0
CompletionsDiffer = (names : WorkerNames) (policies : Policies) (carried : Carried) (events : List Event)
    (token other_token : List ℕ) (cs es : List Command)
    (results other_results : Members) (sticky other_sticky : Option ℕ)
    (d : Data) → IsHistory events → AreSent cs → AreSent es
    → workflow_completed names token cs events results sticky policies carried ≡ Ok d
    → workflow_completed names other_token es events other_results other_sticky policies carried ≡ Ok d
    → (token ≡ other_token) × (cs ≡ es) × (results ≡ other_results)

-- two failures of workflow tasks that are written alike are the same
abbrev pub FailuresDiffer : Type 0
FailuresDiffer = (names : WorkerNames) (token other_token : List ℕ) (cause other_cause : FailedCause)
    (message other_message : List ℕ)
    → workflow_failed names token cause message ≡ workflow_failed names other_token other_cause other_message
    → (token ≡ other_token) × (cause ≡ other_cause) × (message ≡ other_message)

-- two results of activities that are written alike are the same
abbrev pub ResultsDiffer : Type 0
ResultsDiffer = (names : WorkerNames) (token other_token : List ℕ) (outcome other_outcome : List Payload)
    → HaveBytes outcome → HaveBytes other_outcome
    → activity_completed names token outcome ≡ activity_completed names other_token other_outcome
    → (token ≡ other_token) × (outcome ≡ other_outcome)

-- two failures of activities that are written alike are the same
abbrev pub ActivityFailuresDiffer : Type 0
ActivityFailuresDiffer = (names : WorkerNames) (token other_token message other_message : List ℕ)
    (failure_type other_type : Option (List ℕ)) (retryable other_retryable : Bool)
    → activity_failed names token message failure_type retryable
    ≡ activity_failed names other_token other_message other_type other_retryable
    → (token ≡ other_token) × (message ≡ other_message) × (failure_type ≡ other_type) × (retryable ≡ other_retryable)

-- a failure of an activity is never written as a result
abbrev pub FailureIsNoResult : Type 0
FailureIsNoResult = (names : WorkerNames) (token other_token message : List ℕ)
    (failure_type : Option (List ℕ)) (retryable : Bool) (outcome : List Payload)
    → activity_failed names token message failure_type retryable ≢ activity_completed names other_token outcome
