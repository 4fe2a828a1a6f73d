-- What responses mean.
use Rattle.std.specs.Prelude.{ℕ, List, [], ◌∷◌, codes, map, max, Option, Some, None, option_map}
use Rattle.std.specs.Result.{result_ok}
use Rattle.serde_json.specs.Data.{Data, Members, no_members}
use Rattle.serde_json.specs.Find.{as_object}
use Rattle.serde_json.specs.View.{members_view, view}
use Rattle.wh_events.specs.declared.event.Payload.{Payload}
use Rattle.wh_events.specs.declared.key.RunKey.{RunKey}
use Rattle.wh_tasks.specs.declared.activity_info.ActivityInfo.{ActivityInfo}
use Rattle.wh_json.specs.Fields.{field, text_of, number_of, list_in}
use Rattle.wh_json.specs.Markers.{some_text}
use Rattle.wh_json.specs.Payloads.{payloads_at}
use Rattle.wh_commands.specs.Options.{◌>>=◌}
use Rattle.wh_commands.specs.ReadBack.{text_or_empty}
use Rattle.wh_messages.specs.declared.response.ActivityPoll.{ActivityPoll}
use Rattle.wh_messages.specs.declared.response.ActivityPoll.TheVariants as activity
use Rattle.wh_messages.specs.declared.response.PolledActivity.{PolledActivity}
use Rattle.wh_messages.specs.declared.response.HistoryPage.{HistoryPage}
use Rattle.wh_messages.specs.declared.response.PolledTask.{PolledTask}
use Rattle.wh_messages.specs.declared.response.WorkflowPoll.{WorkflowPoll}
use Rattle.wh_messages.specs.declared.response.WorkflowPoll.TheVariants as workflow
use Rattle.wh_messages.specs.Times.{times_in}

-- ---- Parts

-- the members of a list, none if it is missing
abbrev pub list_or_empty : Option Data → Option (List Data)
list_or_empty None = Some []
list_or_empty (Some d) = list_in d

-- the value as a number, 1 if it is missing
abbrev pub number_or_one : Option Data → Option ℕ
number_or_one None = Some 1
number_or_one (Some d) = number_of d

-- the members of an object, none if it is missing
abbrev pub members_or_none : Option Data → Option Members
members_or_none None = Some no_members
members_or_none (Some d) = as_object d

-- the Task Token, empty if it is missing
abbrev pub token_in : Data → Option (List ℕ)
token_in d = text_or_empty (field (codes "taskToken") (Some d))

-- a text that is not empty
abbrev pub needed : Option Data → Option (List ℕ)
needed value = some_text (text_of value)

-- the run that a task belongs to
unfoldable pub run_in : Option Data → Option RunKey
run_in execution = do
  workflow_id ← needed (field (codes "workflowId") execution)
  run_id ← needed (field (codes "runId") execution)
  Some (record { workflow_id = workflow_id; run_id = run_id })

-- the members of the history's list of events, none if it is missing
abbrev pub events_in : Data → Option (List Data)
events_in d = list_or_empty (field (codes "events") (field (codes "history") (Some d)))

-- the token of the next page, empty on the last one
abbrev pub next_page_in : Data → Option (List ℕ)
next_page_in d = text_or_empty (field (codes "nextPageToken") (Some d))

-- ---- Pages

-- a page, with its events as data
pub record Page : Type 0 where
  pub members : List Data
  pub next_page : List ℕ

abbrev pub page_seen : HistoryPage → Page
page_seen page = record { members = map view page.members.items; next_page = page.next_page }

-- the page of a response to `GetWorkflowExecutionHistory`
unfoldable pub page_in : Data → Option Page
page_in d = do
  next_page ← next_page_in d
  members ← events_in d
  Some (record { members = members; next_page = next_page })

-- ---- Workflow tasks

-- a task, with its events and queries as data
pub record Task : Type 0 where
  pub token : List ℕ
  pub run : RunKey
  pub attempt : ℕ
  pub members : List Data
  pub next_page : List ℕ
  pub queries : Members

abbrev pub task_seen : PolledTask → Task
task_seen task = record {
  token = task.token;
  run = task.run;
  attempt = task.attempt;
  members = map view task.members.items;
  next_page = task.next_page;
  queries = members_view task.queries.entries;
}

-- the response to a poll
pub data Poll : Type 0 where
  nothing : Poll
  task : Task → Poll
  query : (token : List ℕ) (result : Data) → Poll
  unreadable : Poll

abbrev pub poll_seen : WorkflowPoll → Poll
poll_seen workflow.Nothing = nothing
poll_seen (workflow.Task polled) = task (task_seen polled)
poll_seen (workflow.Query asked) = query asked.token (view asked.result)
poll_seen workflow.Unreadable = unreadable

-- the task of a token
unfoldable pub task_in : List ℕ → Data → Option Task
task_in token d = do
  attempt ← number_or_one (field (codes "attempt") (Some d))
  run ← run_in (field (codes "workflowExecution") (Some d))
  queries ← members_or_none (field (codes "queries") (Some d))
  page ← page_in d
  Some (record {
    token = token;
    run = run;
    attempt = attempt;
    members = page.members;
    next_page = page.next_page;
    queries = queries;
  })

-- a task, if it could be read
abbrev pub task_or_unreadable : Option Task → Poll
task_or_unreadable None = unreadable
task_or_unreadable (Some read) = task read

-- the query that came alone, if there is one, otherwise the task
abbrev pub query_or_task : List ℕ → Data → Option Data → Poll
query_or_task token d (Some asked) = query token d
query_or_task token d None = task_or_unreadable (task_in token d)

-- what a response with this token means; with an empty token it is an empty poll
abbrev pub poll_of_token : Data → Option (List ℕ) → Poll
poll_of_token d None = unreadable
poll_of_token d (Some []) = nothing
poll_of_token d (Some (c ∷ cs)) = query_or_task (c ∷ cs) d (field (codes "query") (Some d))

-- what a response to `PollWorkflowTaskQueue` means
abbrev pub workflow_poll : Data → Poll
workflow_poll d = poll_of_token d (token_in d)

-- ---- Activity tasks

-- the type of an activity
unfoldable pub activity_type : Data → Option (List ℕ)
activity_type d = needed (field (codes "name") (field (codes "activityType") (Some d)))

-- the number of an attempt, counted from 1; it is the first one if a server omits it
abbrev pub attempt_in : Option Data → Option ℕ
attempt_in value = option_map (λ attempt. max attempt 1) (number_or_one value)

-- the details of a heartbeat, if there are any
abbrev pub details_in : Option Data → Option (Option (List Payload))
details_in None = Some None
details_in (Some d) = option_map Some (result_ok (payloads_at 0 (Some d)))

-- which attempt it is, the details of the last heartbeat of an earlier one, and the times
unfoldable pub info_in : Data → Option ActivityInfo
info_in d = do
  attempt ← attempt_in (field (codes "attempt") (Some d))
  details ← details_in (field (codes "heartbeatDetails") (Some d))
  Some (record { attempt = attempt; heartbeat_details = details; times = times_in d })

-- the task of a token
unfoldable pub activity_in : List ℕ → Data → Option PolledActivity
activity_in token d = do
  run ← run_in (field (codes "workflowExecution") (Some d))
  id ← needed (field (codes "activityId") (Some d))
  activity ← activity_type d
  input ← result_ok (payloads_at 0 (field (codes "input") (Some d)))
  info ← info_in d
  Some (record { token = token; run = run; id = id; activity = activity; input = input; info = info })

-- a task, if it could be read
abbrev pub activity_or_unreadable : Option PolledActivity → ActivityPoll
activity_or_unreadable None = activity.Unreadable
activity_or_unreadable (Some read) = activity.Task read

-- what a response with this token means; with an empty token it is an empty poll
abbrev pub activity_of_token : Data → Option (List ℕ) → ActivityPoll
activity_of_token d None = activity.Unreadable
activity_of_token d (Some []) = activity.Nothing
activity_of_token d (Some (c ∷ cs)) = activity_or_unreadable (activity_in (c ∷ cs) d)

-- what a response to `PollActivityTaskQueue` means
abbrev pub activity_poll : Data → ActivityPoll
activity_poll d = activity_of_token d (token_in d)
