-- How requests are written.
use Rattle.std.specs.Prelude.{ℕ, List, [], ◌∷◌, codes, Bool, true, false, Option, Some, None, Result, Ok}
use Rattle.serde_json.specs.Data.{Data, string, array, object, Members, no_members, member, put}
use Rattle.serde_json.specs.View.{items_of}
use Rattle.wh_events.specs.declared.event.Event.{Event}
use Rattle.wh_events.specs.declared.event.Payload.{Payload}
use Rattle.wh_workflow.specs.declared.command.Command.{Command}
use Rattle.wh_commands.specs.declared.fault.RequestFault.{RequestFault}
use Rattle.wh_policies.specs.declared.policies.Policies.{Policies}
use Rattle.wh_commands.specs.declared.names.WorkerNames.{WorkerNames}
use Rattle.wh_messages.specs.declared.request.FailedCause.{FailedCause}
use Rattle.wh_messages.specs.declared.request.FailedCause.TheVariants.{Nondeterministic, TooLarge, Unhandled}
use Rattle.wh_commands.specs.CarryingOver.{Carried}
use Rattle.wh_commands.specs.Commands.{failure, typed_failure, written, written_after}
use Rattle.wh_commands.specs.Durations.{duration_text}
use Rattle.wh_commands.specs.Objects.{object_of, put_all}
use Rattle.wh_commands.specs.Outcome.{on_written}
use Rattle.wh_commands.specs.Payloads.{payloads_written}

-- ---- Polls

-- the Task Queue that all workers poll
abbrev pub normal_queue : WorkerNames → Data
normal_queue names = object_of (
    (codes "name", string names.task_queue) ∷ (codes "kind", string (codes "TASK_QUEUE_KIND_NORMAL")) ∷ [])

-- the sticky queue of this process
abbrev pub sticky_queue : WorkerNames → Data
sticky_queue names = object_of (
    (codes "name", string names.sticky_queue) ∷ (codes "kind", string (codes "TASK_QUEUE_KIND_STICKY"))
    ∷ (codes "normalName", string names.task_queue) ∷ [])

abbrev pub poll : WorkerNames → Data → Data
poll names queue = object_of (
    (codes "namespace", string names.namespace) ∷ (codes "taskQueue", queue)
    ∷ (codes "identity", string names.identity) ∷ [])

abbrev pub poll_workflow : WorkerNames → Bool → Data
poll_workflow names true = poll names (sticky_queue names)
poll_workflow names false = poll names (normal_queue names)

abbrev pub poll_activity : WorkerNames → Data
poll_activity names = poll names (normal_queue names)

-- ---- Histories

-- a run of a workflow
abbrev pub execution : List ℕ → List ℕ → Data
execution workflow_id run_id = object_of (
    (codes "workflowId", string workflow_id) ∷ (codes "runId", string run_id) ∷ [])

-- the members, with the token of a page, unless it is empty
abbrev pub with_page : List ℕ → Members → Members
with_page [] members = members
with_page (c ∷ page) members = put (codes "nextPageToken") (string (c ∷ page)) members

-- the request of a run's history: the page of a token, or the first one if the token is empty
abbrev pub history : WorkerNames → List ℕ → List ℕ → List ℕ → Data
history names workflow_id run_id page = object (with_page page (put_all (
    (codes "namespace", string names.namespace) ∷ (codes "execution", execution workflow_id run_id) ∷ []) no_members))

-- ---- Answers

-- the members that say who answers which task
abbrev pub answer_of : WorkerNames → List ℕ → Members
answer_of names token = put_all (
    (codes "namespace", string names.namespace) ∷ (codes "identity", string names.identity)
    ∷ (codes "taskToken", string token) ∷ []) no_members

-- where the run's next task goes first, and after how many seconds it goes to the queue of all workers
abbrev pub sticky_attributes : WorkerNames → ℕ → Data
sticky_attributes names timeout = object_of (
    (codes "workerTaskQueue", sticky_queue names)
    ∷ (codes "scheduleToStartTimeout", string (duration_text timeout)) ∷ [])

-- the error message for a query that came alone, where nothing answers queries
abbrev pub no_queries : List ℕ
no_queries = codes "this worker answers no queries"

-- the members, with the results of queries, if there are any
abbrev pub with_results : Members → Members → Members
with_results no_members members = members
with_results (member id result results) members = put (codes "queryResults") (object (member id result results)) members

-- the members, with the sticky queue, if the run is kept in it
abbrev pub with_sticky : WorkerNames → Option ℕ → Members → Members
with_sticky names None members = members
with_sticky names (Some timeout) members = put (codes "stickyAttributes") (sticky_attributes names timeout) members

-- a workflow task, completed with written commands
abbrev pub completed_with : WorkerNames → List ℕ → Members → Option ℕ → List Data → Data
completed_with names token results sticky commands = object (with_sticky names sticky (with_results results (put_all (
    (codes "commands", array (items_of commands)) ∷ []) (answer_of names token))))

-- a workflow task, completed with commands and the results of queries; or the fault of the first command that can't be
-- written
abbrev pub workflow_completed : WorkerNames → List ℕ → List Command → List Event
    → Members → Option ℕ → Policies → Carried → Result Data RequestFault
workflow_completed names token commands events results sticky policies carried =
    on_written (written_after (written names policies carried events) [] commands)
    (λ values. Ok (completed_with names token results sticky values))

abbrev pub cause_name : FailedCause → List ℕ
cause_name Nondeterministic = codes "WORKFLOW_TASK_FAILED_CAUSE_NON_DETERMINISTIC_ERROR"
cause_name TooLarge = codes "WORKFLOW_TASK_FAILED_CAUSE_GRPC_MESSAGE_TOO_LARGE"
cause_name Unhandled = codes "WORKFLOW_TASK_FAILED_CAUSE_WORKFLOW_WORKER_UNHANDLED_FAILURE"

-- a workflow task that failed
abbrev pub workflow_failed : WorkerNames → List ℕ → FailedCause → List ℕ → Data
workflow_failed names token cause message = object (put_all (
    (codes "cause", string (cause_name cause)) ∷ (codes "failure", failure message) ∷ []) (answer_of names token))

-- a query that came alone, and is not answered
abbrev pub query_failed : WorkerNames → List ℕ → List ℕ → Data
query_failed names token message = object_of (
    (codes "namespace", string names.namespace) ∷ (codes "taskToken", string token)
    ∷ (codes "completedType", string (codes "QUERY_RESULT_TYPE_FAILED"))
    ∷ (codes "errorMessage", string message) ∷ [])

-- an answer to an activity task with these payloads under a name
abbrev pub answer_with : WorkerNames → List ℕ → List ℕ → List Payload → Data
answer_with names token name payloads = object (put_all ((name, payloads_written payloads) ∷ []) (answer_of names token))

-- an activity that completed with a result
abbrev pub activity_completed : WorkerNames → List ℕ → List Payload → Data
activity_completed names token outcome = answer_with names token (codes "result") outcome

-- an activity that failed with a message, with the failure's type, if it has one, and the mark if it is not retried
abbrev pub activity_failed : WorkerNames → List ℕ → List ℕ → Option (List ℕ) → Bool → Data
activity_failed names token message failure_type retryable = object (put_all (
    (codes "failure", typed_failure message failure_type retryable) ∷ []) (answer_of names token))

-- gives up the sticky queue of a process that ends
abbrev pub shutdown : WorkerNames → Data
shutdown names = object_of (
    (codes "namespace", string names.namespace) ∷ (codes "stickyTaskQueue", string names.sticky_queue)
    ∷ (codes "identity", string names.identity) ∷ [])
