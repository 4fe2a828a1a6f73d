-- How commands are written.
use Rattle.std.specs.Prelude.{ℕ, ℤ, Bool, List, [], ◌∷◌, ◌++◌, codes, decimal, nat_lt, true, Option, Some, None, Result, Ok, Err, if◌then◌else◌}
use Rattle.serde_json.specs.Data.{Data, Members, no_members, boolean, number, object, string}
use Rattle.serde_json.specs.Find.{of_integer}
use Rattle.wh_events.specs.declared.event.Event.{Event}
use Rattle.wh_events.specs.declared.event.Payload.{Payload}
use Rattle.wh_events.specs.declared.place.Thing.TheVariants.{Activity}
use Rattle.wh_events.specs.Machines.{last_named}
use Rattle.wh_workflow.specs.declared.command.Command.{Command}
use Rattle.wh_workflow.specs.declared.command.Command.TheVariants as commands
use Rattle.wh_policies.specs.declared.policies.ActivityPolicy.{ActivityPolicy}
use Rattle.wh_policies.specs.declared.policies.ChildPolicy.{ChildPolicy}
use Rattle.wh_policies.specs.declared.policies.ContinuePolicy.{ContinuePolicy}
use Rattle.wh_policies.specs.declared.policies.FailurePolicy.{FailurePolicy}
use Rattle.wh_policies.specs.declared.policies.Policies.{Policies}
use Rattle.wh_policies.specs.Tables.{policy_of}
use Rattle.wh_commands.specs.declared.names.WorkerNames.{WorkerNames}
use Rattle.wh_commands.specs.declared.fault.RequestFault.{RequestFault}
use Rattle.wh_commands.specs.declared.fault.RequestFault.TheVariants.{TooLong, NotScheduled, NeverSent}
use Rattle.wh_commands.specs.CarryingOver.{Carried}
use Rattle.wh_commands.specs.Durations.{delay_text, duration_text, longest_duration}
use Rattle.wh_commands.specs.Objects.{object_of, put_all, put_given}
use Rattle.wh_commands.specs.Outcome.{on_written}
use Rattle.wh_commands.specs.Payloads.{payloads_written, json_payloads}
use Rattle.wh_commands.specs.Policies.{activity_asked, child_asked, continued_asked, failure_info, info_of, queue_asked, retry_written}

-- ---- Parts

-- an object that names a type, a queue or a run
abbrev pub named : List ℕ → Data
named name = object_of ((codes "name", string name) ∷ [])

-- the execution of a workflow id, without a run id
abbrev pub execution : List ℕ → Data
execution workflow_id = object_of ((codes "workflowId", string workflow_id) ∷ [])

-- a failure with its info; its source is this program
abbrev pub failure_with : Data → List ℕ → Data
failure_with info message = object_of (
    (codes "message", string message) ∷ (codes "source", string (codes "wfhost"))
    ∷ (codes "applicationFailureInfo", info) ∷ [])

-- a failure
abbrev pub failure : List ℕ → Data
failure message = failure_with (object_of []) message

-- a failure of a type, if it has one, with the mark if it is not retried
abbrev pub typed_failure : List ℕ → Option (List ℕ) → Bool → Data
typed_failure message failure_type retryable = failure_with (info_of failure_type retryable) message

-- a command of a type, with its attributes under their name
abbrev pub command_form : List ℕ → List ℕ → Data → Data
command_form kind name attributes = object_of ((codes "commandType", string kind) ∷ (name, attributes) ∷ [])

-- ---- The commands

-- an activity as its workflow requests it, with the options that are always written
abbrev pub activity_members : WorkerNames → ActivityPolicy → List ℕ → List ℕ → List Payload → Members
activity_members names policy id activity input = put_all (
    (codes "activityId", string id) ∷ (codes "activityType", named activity)
    ∷ (codes "taskQueue", named (queue_asked names policy.task_queue)) ∷ (codes "input", payloads_written input)
    ∷ (codes "startToCloseTimeout", string (duration_text policy.start_to_close))
    ∷ (codes "retryPolicy", retry_written policy.retry) ∷ []) no_members

abbrev pub start_activity : WorkerNames → ActivityPolicy → List ℕ → List ℕ → List Payload → Data
start_activity names policy id activity input =
    command_form (codes "COMMAND_TYPE_SCHEDULE_ACTIVITY_TASK") (codes "scheduleActivityTaskCommandAttributes")
    (object (put_given (activity_asked policy) (activity_members names policy id activity input)))

abbrev pub cancel_activity : ℕ → Data
cancel_activity scheduled =
    command_form (codes "COMMAND_TYPE_REQUEST_CANCEL_ACTIVITY_TASK")
    (codes "requestCancelActivityTaskCommandAttributes")
    (object_of ((codes "scheduledEventId", string (decimal scheduled)) ∷ []))

abbrev pub start_timer : List ℕ → ℕ → Data
start_timer id seconds =
    command_form (codes "COMMAND_TYPE_START_TIMER") (codes "startTimerCommandAttributes")
    (object_of ((codes "timerId", string id) ∷ (codes "startToFireTimeout", string (delay_text seconds)) ∷ []))

abbrev pub cancel_timer : List ℕ → Data
cancel_timer id =
    command_form (codes "COMMAND_TYPE_CANCEL_TIMER") (codes "cancelTimerCommandAttributes")
    (object_of ((codes "timerId", string id) ∷ []))

-- a child as its workflow requests it, with its queue
abbrev pub child_members : WorkerNames → ChildPolicy → List ℕ → List ℕ → List Payload → Members
child_members names policy workflow_id workflow input = put_all (
    (codes "namespace", string names.namespace) ∷ (codes "workflowId", string workflow_id)
    ∷ (codes "workflowType", named workflow) ∷ (codes "taskQueue", named (queue_asked names policy.task_queue))
    ∷ (codes "input", payloads_written input) ∷ []) no_members

abbrev pub start_child : WorkerNames → ChildPolicy → List ℕ → List ℕ → List Payload → Data
start_child names policy workflow_id workflow input =
    command_form (codes "COMMAND_TYPE_START_CHILD_WORKFLOW_EXECUTION")
    (codes "startChildWorkflowExecutionCommandAttributes")
    (object (put_given (child_asked policy) (child_members names policy workflow_id workflow input)))

abbrev pub cancel_child : WorkerNames → List ℕ → Data
cancel_child names workflow_id =
    command_form (codes "COMMAND_TYPE_REQUEST_CANCEL_EXTERNAL_WORKFLOW_EXECUTION")
    (codes "requestCancelExternalWorkflowExecutionCommandAttributes")
    (object_of (
    (codes "namespace", string names.namespace) ∷ (codes "workflowId", string workflow_id)
    ∷ (codes "childWorkflowOnly", boolean true) ∷ []))

abbrev pub signal_external : WorkerNames → List ℕ → List ℕ → List Payload → Data
signal_external names workflow_id signal input =
    command_form (codes "COMMAND_TYPE_SIGNAL_EXTERNAL_WORKFLOW_EXECUTION")
    (codes "signalExternalWorkflowExecutionCommandAttributes")
    (object_of (
    (codes "namespace", string names.namespace)
    ∷ (codes "execution", execution workflow_id)
    ∷ (codes "signalName", string signal) ∷ (codes "input", payloads_written input) ∷ []))

-- the details of a marker, in the form in which markers are read
abbrev pub details : List ℕ → ℤ → Data
details change_id version = object_of (
    (codes "change-id", json_payloads (string change_id))
    ∷ (codes "version", json_payloads (number (of_integer version))) ∷ [])

abbrev pub marker : List ℕ → ℤ → Data
marker change_id version =
    command_form (codes "COMMAND_TYPE_RECORD_MARKER") (codes "recordMarkerCommandAttributes")
    (object_of ((codes "markerName", string (codes "Version")) ∷ (codes "details", details change_id version) ∷ []))

abbrev pub complete : List Payload → Data
complete result =
    command_form (codes "COMMAND_TYPE_COMPLETE_WORKFLOW_EXECUTION") (codes "completeWorkflowExecutionCommandAttributes")
    (object_of ((codes "result", payloads_written result) ∷ []))

abbrev pub fail : FailurePolicy → List ℕ → Data
fail policy message =
    command_form (codes "COMMAND_TYPE_FAIL_WORKFLOW_EXECUTION") (codes "failWorkflowExecutionCommandAttributes")
    (object_of ((codes "failure", failure_with (failure_info policy) message) ∷ []))

abbrev pub cancel : Data
cancel =
    command_form (codes "COMMAND_TYPE_CANCEL_WORKFLOW_EXECUTION") (codes "cancelWorkflowExecutionCommandAttributes")
    (object_of [])

-- what the run carries over
abbrev pub carried_asked : Carried → List (List ℕ × Option Data)
carried_asked carried =
    (codes "memo", carried.memo) ∷ (codes "searchAttributes", carried.search_attributes)
    ∷ (codes "retryPolicy", carried.retry_policy) ∷ []

-- a new run as its workflow requests it, with its queue
abbrev pub continued_members : WorkerNames → ContinuePolicy → List ℕ → List Payload → Members
continued_members names policy workflow input = put_all (
    (codes "workflowType", named workflow) ∷ (codes "taskQueue", named (queue_asked names policy.task_queue))
    ∷ (codes "input", payloads_written input) ∷ []) no_members

abbrev pub continue_as_new : WorkerNames → ContinuePolicy → Carried → List ℕ → List Payload → Data
continue_as_new names policy carried workflow input =
    command_form (codes "COMMAND_TYPE_CONTINUE_AS_NEW_WORKFLOW_EXECUTION")
    (codes "continueAsNewWorkflowExecutionCommandAttributes")
    (object (put_given (continued_asked policy) (put_given (carried_asked carried)
    (continued_members names policy workflow input))))

-- cancels the activity of an id, by the number of the event that scheduled it, if there is one
abbrev pub cancel_scheduled : List ℕ → Option ℕ → Result Data RequestFault
cancel_scheduled id None = Err (NotScheduled id)
cancel_scheduled id (Some scheduled) = Ok (cancel_activity scheduled)

-- starts a timer, if it is no longer than the longest duration
abbrev pub start_timer_within : List ℕ → ℕ → Result Data RequestFault
start_timer_within id seconds =
    if nat_lt longest_duration seconds then Err (TooLong id) else Ok (start_timer id seconds)

-- how a command is written after these events of the history, with the policy of its name and what the run carries
-- over; or why it can't be written
abbrev pub written : WorkerNames → Policies → Carried → List Event → Command → Result Data RequestFault
written names policies carried events (commands.StartActivity id activity input) =
    Ok (start_activity names (policy_of policies.activities activity) id activity input)
written names policies carried events (commands.CancelActivity id) = cancel_scheduled id (last_named events Activity id)
written names policies carried events (commands.StartTimer id seconds) = start_timer_within id seconds
written names policies carried events (commands.CancelTimer id) = Ok (cancel_timer id)
written names policies carried events (commands.StartChild workflow_id workflow input) =
    Ok (start_child names (policy_of policies.children workflow) workflow_id workflow input)
written names policies carried events (commands.CancelChild workflow_id) = Ok (cancel_child names workflow_id)
written names policies carried events (commands.SignalExternal workflow_id signal input) =
    Ok (signal_external names workflow_id signal input)
written names policies carried events (commands.Ask change_id min max) = Err (NeverSent change_id)
written names policies carried events (commands.Marker change_id version) = Ok (marker change_id version)
written names policies carried events (commands.Complete result) = Ok (complete result)
written names policies carried events (commands.Fail message) = Ok (fail (policy_of policies.failures message) message)
written names policies carried events commands.Cancel = Ok cancel
written names policies carried events (commands.ContinueAsNew workflow input) =
    Ok (continue_as_new names (policy_of policies.continued workflow) carried workflow input)

-- the values so far, then those of the commands, in order; or the first fault
abbrev pub written_after : (Command → Result Data RequestFault)
    → List Data → List Command → Result (List Data) RequestFault
written_after write before [] = Ok before
written_after write before (command ∷ commands) =
    on_written (write command) (λ d. written_after write (before ++ d ∷ []) commands)
