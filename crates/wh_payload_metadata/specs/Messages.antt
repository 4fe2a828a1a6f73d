-- What calls of Temporal's WorkflowService say of runs and tasks.
use Rattle.std.specs.Prelude.{ℕ, ◌-◌, List, [], ◌∷◌, length, slice_get, Bool, true, false, ◌&&◌, ◌||◌, not, is_some, bytes_eq, codes, Option, Some, Result, Ok, Err, nat_eq, option_and_then, if◌then◌else◌}
use Rattle.std.specs.List.{starts_with}
use Rattle.serde_json.specs.Data.{Data}
use Rattle.wh_json.specs.Fields.{field, at_path, text_of, list_in}
use Rattle.wh_rpc.specs.declared.call_fault.CallFault.{CallFault}
use Rattle.wh_rpc.specs.declared.response.CallResult.{CallResult}
use Rattle.wh_rpc.specs.declared.response.CallResult.TheVariants.{Given, Refused}
use Rattle.wh_payload_metadata.specs.declared.ends.TaskEnd.{TaskEnd}
use Rattle.wh_payload_metadata.specs.declared.ends.TaskEnd.TheVariants.{GoesOn, Answered, Closed}

-- the token of the task that the result of a poll has, or the params of a call name; empty if there is none
abbrev pub token_of : Data → List ℕ
token_of d = text_of (field (codes "taskToken") (Some d))

-- whether polls of this method bring activity tasks
abbrev pub polls_activities : List ℕ → Bool
polls_activities method = bytes_eq method (codes "PollActivityTaskQueue")

-- whether a poll brought a query that came alone
abbrev pub is_query : Data → Bool
is_query polled = is_some (field (codes "query") (Some polled))

-- whether a poll of this method brought a workflow task
abbrev pub brings_workflow_task : List ℕ → Data → Bool
brings_workflow_task method polled = not (polls_activities method) && not (is_query polled)

-- the name under which what a poll brought is kept: the id of the run, and of an activity task its token
abbrev pub polled_place : List ℕ → Data → List ℕ
polled_place method result = if polls_activities method then token_of result
    else text_of (at_path (codes "workflowExecution" ∷ codes "runId" ∷ []) (Some result))

-- the history that a poll brought with a workflow task, or a call for a page of it
abbrev pub history_in : Data → Option Data
history_in brought = field (codes "history") (Some brought)

-- the queries that a poll brought with a workflow task
abbrev pub queries_in : Data → Option Data
queries_in task = field (codes "queries") (Some task)

-- the id of the run whose history a call asks for
abbrev pub fetched_run : Data → List ℕ
fetched_run params = text_of (at_path (codes "execution" ∷ codes "runId" ∷ []) (Some params))

-- whether a call of this method asks for a history
abbrev pub fetches : List ℕ → Bool
fetches method = bytes_eq method (codes "GetWorkflowExecutionHistory")

-- whether a call of this method answers a task or a query
abbrev pub responds : List ℕ → Bool
responds method = starts_with nat_eq method (codes "Respond")

-- whether a call of this method brings payloads of a task that goes on
abbrev pub beats : List ℕ → Bool
beats method = bytes_eq method (codes "RecordActivityTaskHeartbeat")

-- whether a command of this type closes its run
unfoldable pub closes : List ℕ → Bool
closes kind =
    bytes_eq kind (codes "COMMAND_TYPE_COMPLETE_WORKFLOW_EXECUTION")
    || bytes_eq kind (codes "COMMAND_TYPE_FAIL_WORKFLOW_EXECUTION")
    || bytes_eq kind (codes "COMMAND_TYPE_CANCEL_WORKFLOW_EXECUTION")
    || bytes_eq kind (codes "COMMAND_TYPE_CONTINUE_AS_NEW_WORKFLOW_EXECUTION")

-- the last of a list, if there is one
unfoldable pub last : List Data → Option Data
last ds = slice_get ds (length ds - 1)

-- the last command of a call, if it has any
abbrev pub last_command : Data → Option Data
last_command params = option_and_then last (option_and_then list_in (field (codes "commands") (Some params)))

-- whether the last command of a call closes its run
abbrev pub closes_run : Data → Bool
closes_run params = closes (text_of (field (codes "commandType") (last_command params)))

-- ---- The end of a task

-- whether the server took what a call says
abbrev pub is_given : CallResult → Bool
is_given (Given value) = true
is_given (Refused code message) = false

abbrev pub is_taken : Result (ℕ × CallResult) CallFault → Bool
is_taken (Ok response) = is_given response.1
is_taken (Err fault) = false

-- what a task has come to by an answer that the server took, whose last command closes the run or does not
abbrev pub end_by : (closes : Bool) → TaskEnd
end_by closes = if closes then Closed else Answered

-- what a task has come to by a call: it goes on, unless the call answers it and the server took the answer
abbrev pub end_after : (method : List ℕ) → (closes : Bool) → Result (ℕ × CallResult) CallFault → TaskEnd
end_after method closes response = if responds method && is_taken response then end_by closes else GoesOn
