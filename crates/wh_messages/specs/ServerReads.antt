-- What a server reads from requests, by the names of their fields.
use Rattle.std.specs.Prelude.{◌≡◌, ℕ, Bool, List, codes, Option, Some, None, Ok, option_map, true, false, if◌then◌else◌}
use Rattle.serde_json.specs.Data.{Data, Members, no_members}
use Rattle.serde_json.specs.Find.{as_bool, as_object, get}
use Rattle.wh_events.specs.declared.event.Event.{Event}
use Rattle.wh_events.specs.declared.event.Payload.{Payload}
use Rattle.wh_workflow.specs.declared.command.Command.{Command}
use Rattle.wh_policies.specs.declared.policies.Policies.{Policies}
use Rattle.wh_commands.specs.declared.names.WorkerNames.{WorkerNames}
use Rattle.wh_messages.specs.declared.request.FailedCause.{FailedCause}
use Rattle.wh_commands.specs.CarryingOver.{Carried}
use Rattle.wh_commands.specs.Options.{◌>>=◌}
use Rattle.wh_commands.specs.ReadBack.{text_at, text_or_empty}
use Rattle.wh_messages.specs.Requests as requests
use Rattle.wh_commands.specs.ServerReads.{Queue, queue_at, seconds_at, Fits}

-- ---- Queues

-- the Task Queue that all workers poll
abbrev pub normal : WorkerNames → Queue
normal names = record { name = names.task_queue; kind = Some (codes "TASK_QUEUE_KIND_NORMAL"); normal_name = None }

-- the sticky queue of this process
abbrev pub sticky : WorkerNames → Queue
sticky names = record {
  name = names.sticky_queue;
  kind = Some (codes "TASK_QUEUE_KIND_STICKY");
  normal_name = Some names.task_queue;
}

-- ---- Polls, and the shutdown

-- a poll of a queue, by this worker
pub record IsPoll (names : WorkerNames) (queue : Queue) (d : Data) : Type 0 where
  pub namespace : text_at (codes "namespace") d ≡ Some names.namespace
  pub identity : text_at (codes "identity") d ≡ Some names.identity
  pub polled : queue_at (codes "taskQueue") d ≡ Some queue

-- workflow tasks are polled on the queue of all workers or on that of the process, activity tasks on the first
abbrev pub PollsAreRead : Type 0
PollsAreRead = (names : WorkerNames) → IsPoll names (normal names) (requests.poll_workflow names false)
    × IsPoll names (sticky names) (requests.poll_workflow names true)
    × IsPoll names (normal names) (requests.poll_activity names)

-- a worker that shuts down gives up its sticky queue
pub record IsEnd (names : WorkerNames) (d : Data) : Type 0 where
  pub namespace : text_at (codes "namespace") d ≡ Some names.namespace
  pub identity : text_at (codes "identity") d ≡ Some names.identity
  pub queue : text_at (codes "stickyTaskQueue") d ≡ Some names.sticky_queue

abbrev pub EndIsRead : Type 0
EndIsRead = (names : WorkerNames) → IsEnd names (requests.shutdown names)

-- ---- Histories

-- a page of the history of a run, the first one if the token is empty
pub record IsHistory (names : WorkerNames) (workflow_id run_id page : List ℕ) (d : Data) : Type 0 where
  pub namespace : text_at (codes "namespace") d ≡ Some names.namespace
  pub workflow : (get (codes "execution") d >>= text_at (codes "workflowId")) ≡ Some workflow_id
  pub run : (get (codes "execution") d >>= text_at (codes "runId")) ≡ Some run_id
  pub next : text_or_empty (get (codes "nextPageToken") d) ≡ Some page

abbrev pub HistoryIsRead : Type 0
HistoryIsRead = (names : WorkerNames) (workflow_id run_id page : List ℕ)
    → IsHistory names workflow_id run_id page (requests.history names workflow_id run_id page)

-- ---- Answers

-- an answer of this worker to the task of a token
pub record IsAnswer (names : WorkerNames) (token : List ℕ) (d : Data) : Type 0 where
  pub namespace : text_at (codes "namespace") d ≡ Some names.namespace
  pub identity : text_at (codes "identity") d ≡ Some names.identity
  pub task : text_at (codes "taskToken") d ≡ Some token

-- the queue that the next task of a run goes to first, and for how long
pub record Sticky : Type 0 where
  pub queue : Queue
  pub seconds : ℕ

abbrev pub sticky_in : Data → Option Sticky
sticky_in d = do
  attributes ← get (codes "stickyAttributes") d
  queue ← queue_at (codes "workerTaskQueue") attributes
  seconds ← seconds_at (codes "scheduleToStartTimeout") attributes
  Some (record { queue = queue; seconds = seconds })

-- the results of the queries that came with a task, none if the member is missing
abbrev pub results_of : Option Data → Option Members
results_of None = Some no_members
results_of (Some d) = as_object d

abbrev pub results_in : Data → Option Members
results_in d = results_of (get (codes "queryResults") d)

-- a completion names the worker and the task, the process's own queue exactly if the run is kept in it, and has the
-- results of queries and no others
pub record IsCompletion (names : WorkerNames) (token : List ℕ) (results : Members)
    (timeout : Option ℕ) (d : Data) : Type 0 where
  pub answer : IsAnswer names token d
  pub kept : sticky_in d ≡ option_map (λ seconds. record { queue = sticky names; seconds = seconds }) timeout
  pub answered : results_in d ≡ Some results

abbrev pub CompletionIsRead : Type 0
CompletionIsRead = (names : WorkerNames) (token : List ℕ) (cs : List Command) (events : List Event)
    (results : Members)
    (timeout : Option ℕ) (policies : Policies) (carried : Carried) (d : Data) → Fits timeout
    → requests.workflow_completed names token cs events results timeout policies carried ≡ Ok d
    → IsCompletion names token results timeout d

-- a failed activity has its message, its type, if it has one, and the mark exactly if it is not retried
pub record IsActivityFailed (message : List ℕ) (failure_type : Option (List ℕ)) (retryable : Bool)
    (d : Data) : Type 0 where
  pub info : Data
  pub told : (get (codes "failure") d >>= get (codes "applicationFailureInfo")) ≡ Some info
  pub reason : (get (codes "failure") d >>= text_at (codes "message")) ≡ Some message
  pub of_type : text_at (codes "type") info ≡ failure_type
  pub final : (get (codes "nonRetryable") info >>= as_bool) ≡ (if retryable then None else Some true)

abbrev pub FailuresAreRead : Type 0
FailuresAreRead = (names : WorkerNames) (token message : List ℕ) (cause : FailedCause)
    (failure_type : Option (List ℕ)) (retryable : Bool) (outcome : List Payload)
    → IsAnswer names token (requests.workflow_failed names token cause message)
    × IsAnswer names token (requests.activity_failed names token message failure_type retryable)
    × IsActivityFailed message failure_type retryable
    (requests.activity_failed names token message failure_type retryable)
    × IsAnswer names token (requests.activity_completed names token outcome)

-- a query that came alone is answered as failed, with the reason
pub record IsQueryFailed (names : WorkerNames) (token message : List ℕ) (d : Data) : Type 0 where
  pub namespace : text_at (codes "namespace") d ≡ Some names.namespace
  pub task : text_at (codes "taskToken") d ≡ Some token
  pub kind : text_at (codes "completedType") d ≡ Some (codes "QUERY_RESULT_TYPE_FAILED")
  pub reason : text_at (codes "errorMessage") d ≡ Some message

abbrev pub QueryFailedIsRead : Type 0
QueryFailedIsRead = (names : WorkerNames) (token message : List ℕ)
    → IsQueryFailed names token message (requests.query_failed names token message)
