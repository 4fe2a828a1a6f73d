-- What a server reads from commands, by the names of their fields.
use Rattle.std.specs.Prelude.{◌≡◌, ◌⊎◌, ◌<◌, ◌≤◌, ◌^◌, ℕ, List, codes, Option, Some, None, Ok, option_map, slice_get, true, ⊤, if◌then◌else◌}
use Rattle.serde_json.specs.Data.{Data}
use Rattle.serde_json.specs.Find.{as_bool, as_number, as_u64, get}
use Rattle.wh_events.specs.declared.event.Event.{Event}
use Rattle.wh_workflow.specs.declared.command.Command.{Command}
use Rattle.wh_workflow.specs.declared.command.Command.TheVariants as commands
use Rattle.wh_policies.specs.declared.policies.ActivityPolicy.{ActivityPolicy}
use Rattle.wh_policies.specs.declared.policies.ChildPolicy.{ChildPolicy}
use Rattle.wh_policies.specs.declared.policies.ContinuePolicy.{ContinuePolicy}
use Rattle.wh_policies.specs.declared.policies.FailurePolicy.{FailurePolicy}
use Rattle.wh_policies.specs.declared.policies.Policies.{Policies}
use Rattle.wh_policies.specs.declared.policies.RetryPolicy.{RetryPolicy}
use Rattle.wh_policies.specs.Tables.{policy_of}
use Rattle.wh_commands.specs.declared.names.WorkerNames.{WorkerNames}
use Rattle.wh_commands.specs.CarryingOver.{Carried}
use Rattle.wh_commands.specs.Commands.{written}
use Rattle.wh_commands.specs.Options.{◌>>=◌}
use Rattle.wh_commands.specs.Policies.{float_written, id_reuse_name, parent_close_name, queue_asked, texts_given}
use Rattle.wh_commands.specs.ReadBack.{text_at, seconds_of}

-- ---- Parts

-- a Task Queue; a sticky one also names the one that all workers poll
pub record Queue : Type 0 where
  pub name : List ℕ
  pub kind : Option (List ℕ)
  pub normal_name : Option (List ℕ)

abbrev pub queue_at : List ℕ → Data → Option Queue
queue_at field d = do
  queue ← get field d
  name ← text_at (codes "name") queue
  Some (record { name = name; kind = text_at (codes "kind") queue; normal_name = text_at (codes "normalName") queue })

-- the whole seconds of the duration under a name
abbrev pub seconds_at : List ℕ → Data → Option ℕ
seconds_at field d = option_map seconds_of (text_at field d)

-- the seconds, if there are any, fit in 64 bits
abbrev pub Fits : Option ℕ → Type 0
Fits timeout = (seconds : ℕ) → timeout ≡ Some seconds → seconds < 2 ^ 64

-- ---- Commands

-- these are the seconds under a name, if they fit in 64 bits; none if there are none
abbrev pub HasSeconds : List ℕ → Option ℕ → Data → Type 0
HasSeconds field seconds d = Fits seconds → seconds_at field d ≡ seconds

-- the Task Queue that a policy sets, otherwise the one that all workers poll
abbrev pub asked_queue : WorkerNames → Option (List ℕ) → Queue
asked_queue names asked = record { name = queue_asked names asked; kind = None; normal_name = None }

-- this is the number of attempts, written as a number; one that is missing is 0
abbrev pub HasAttempts : Option Data → ℕ → Type 0
HasAttempts None attempts = attempts ≡ 0
HasAttempts (Some d) attempts = (as_number d >>= as_u64) ≡ Some attempts

-- a retry policy
pub record IsRetry (retry : RetryPolicy) (d : Data) : Type 0 where
  pub attempts : HasAttempts (get (codes "maximumAttempts") d) retry.maximum_attempts
  pub initial : HasSeconds (codes "initialInterval") retry.initial_interval d
  pub maximum : HasSeconds (codes "maximumInterval") retry.maximum_interval d
  pub coefficient : get (codes "backoffCoefficient") d ≡ option_map float_written retry.backoff_coefficient
  pub final_types : get (codes "nonRetryableErrorTypes") d ≡ texts_given retry.non_retryable

-- the retry policy under its name, or this value if there is no policy
abbrev pub HasRetry : Option RetryPolicy → Option Data → Data → Type 0
HasRetry None otherwise d = get (codes "retryPolicy") d ≡ otherwise
HasRetry (Some retry) otherwise d = (value : Data) × (get (codes "retryPolicy") d ≡ Some value) × IsRetry retry value

-- the command says this beyond what its workflow set
pub record IsActivity (names : WorkerNames) (policy : ActivityPolicy) (attributes : Data) : Type 0 where
  pub queue : queue_at (codes "taskQueue") attributes ≡ Some (asked_queue names policy.task_queue)
  pub to_start : HasSeconds (codes "scheduleToStartTimeout") policy.schedule_to_start attributes
  pub attempt : HasSeconds (codes "startToCloseTimeout") (Some policy.start_to_close) attributes
  pub to_close : HasSeconds (codes "scheduleToCloseTimeout") policy.schedule_to_close attributes
  pub heartbeat : HasSeconds (codes "heartbeatTimeout") policy.heartbeat attributes
  pub retry : HasRetry (Some policy.retry) None attributes

pub record IsChild (names : WorkerNames) (policy : ChildPolicy) (attributes : Data) : Type 0 where
  pub namespace : text_at (codes "namespace") attributes ≡ Some names.namespace
  pub queue : queue_at (codes "taskQueue") attributes ≡ Some (asked_queue names policy.task_queue)
  pub execution : HasSeconds (codes "workflowExecutionTimeout") policy.execution_timeout attributes
  pub run : HasSeconds (codes "workflowRunTimeout") policy.run_timeout attributes
  pub task : HasSeconds (codes "workflowTaskTimeout") policy.task_timeout attributes
  pub parent_close : text_at (codes "parentClosePolicy") attributes ≡ option_map parent_close_name policy.parent_close
  pub id_reuse : text_at (codes "workflowIdReusePolicy") attributes ≡ option_map id_reuse_name policy.id_reuse
  pub retry : HasRetry policy.retry None attributes

-- the type of the failure, and whether it is not retried
pub record IsFailure (policy : FailurePolicy) (attributes : Data) : Type 0 where
  pub info : Data
  pub told : (get (codes "failure") attributes >>= get (codes "applicationFailureInfo")) ≡ Some info
  pub failure_type : text_at (codes "type") info ≡ policy.failure_type
  pub final : (get (codes "nonRetryable") info >>= as_bool) ≡ (if policy.retryable then None else Some true)

pub record IsCancelOfChild (names : WorkerNames) (attributes : Data) : Type 0 where
  pub namespace : text_at (codes "namespace") attributes ≡ Some names.namespace
  pub of_child : (get (codes "childWorkflowOnly") attributes >>= as_bool) ≡ Some true

-- a timer's time is positive: it begins with a digit above 0, or is a millisecond
abbrev pub IsPositive : List ℕ → Type 0
IsPositive text = (first : ℕ) × (slice_get text 0 ≡ Some first) × (49 ≤ first) × (first ≤ 57)

abbrev pub IsTimer : Data → Type 0
IsTimer attributes = (text : List ℕ) × (text_at (codes "startToFireTimeout") attributes ≡ Some text)
    × ((text ≡ codes "0.001s") ⊎ IsPositive text)

-- the new run has the options of its policy and what the one before carries over
pub record IsContinued (names : WorkerNames) (policy : ContinuePolicy) (carried : Carried)
    (attributes : Data) : Type 0 where
  pub queue : queue_at (codes "taskQueue") attributes ≡ Some (asked_queue names policy.task_queue)
  pub run : HasSeconds (codes "workflowRunTimeout") policy.run_timeout attributes
  pub task : HasSeconds (codes "workflowTaskTimeout") policy.task_timeout attributes
  pub memo : get (codes "memo") attributes ≡ carried.memo
  pub search_attributes : get (codes "searchAttributes") attributes ≡ carried.search_attributes
  pub retry : HasRetry policy.retry carried.retry_policy attributes

-- the attributes of a command satisfy this
abbrev pub HasAttributes : List ℕ → (Data → Type 0) → Data → Type 0
HasAttributes field P command = (attributes : Data) × (get field command ≡ Some attributes) × P attributes

abbrev pub Says : WorkerNames → Policies → Carried → Command → Data → Type 0
Says names policies carried (commands.StartActivity id activity input) =
    HasAttributes (codes "scheduleActivityTaskCommandAttributes")
    (IsActivity names (policy_of policies.activities activity))
Says names policies carried (commands.StartTimer id seconds) =
    HasAttributes (codes "startTimerCommandAttributes") IsTimer
Says names policies carried (commands.StartChild workflow_id workflow input) =
    HasAttributes (codes "startChildWorkflowExecutionCommandAttributes")
    (IsChild names (policy_of policies.children workflow))
Says names policies carried (commands.CancelChild workflow_id) =
    HasAttributes (codes "requestCancelExternalWorkflowExecutionCommandAttributes") (IsCancelOfChild names)
Says names policies carried (commands.SignalExternal workflow_id signal input) =
    HasAttributes (codes "signalExternalWorkflowExecutionCommandAttributes")
    (λ attributes. text_at (codes "namespace") attributes ≡ Some names.namespace)
Says names policies carried (commands.Fail message) =
    HasAttributes (codes "failWorkflowExecutionCommandAttributes") (IsFailure (policy_of policies.failures message))
Says names policies carried (commands.ContinueAsNew workflow input) =
    HasAttributes (codes "continueAsNewWorkflowExecutionCommandAttributes")
    (IsContinued names (policy_of policies.continued workflow) carried)
Says names policies carried _ = λ d. ⊤

-- what a server reads from a command beyond what its workflow set
abbrev pub CommandsAreRead : Type 0
CommandsAreRead = (names : WorkerNames) (policies : Policies) (carried : Carried) (events : List Event)
    (command : Command) (d : Data) → written names policies carried events command ≡ Ok d
    → Says names policies carried command d
