-- The tasks and pages that a server writes, and what they are read as.
use Rattle.std.specs.Prelude.{◌≡◌, ◌≢◌, ◌<◌, ◌^◌, ℕ, List, [], ◌∷◌, codes, Option, Some, None, IfSome}
use Rattle.serde_json.specs.Data.{Data, number, string, array, object, unsigned}
use Rattle.serde_json.specs.View.{items_of}
use Rattle.wh_events.specs.declared.event.Payload.{Payload}
use Rattle.wh_events.specs.declared.key.RunKey.{RunKey}
use Rattle.wh_tasks.specs.Infos.{no_times}
use Rattle.wh_tasks.specs.declared.activity_info.ActivityInfo.{ActivityInfo}
use Rattle.wh_messages.specs.declared.response.ActivityPoll.TheVariants as activity
use Rattle.wh_messages.specs.declared.response.PolledActivity.{PolledActivity}
use Rattle.wh_commands.specs.Commands.{named}
use Rattle.wh_commands.specs.Objects.{object_of}
use Rattle.wh_commands.specs.Payloads.{payloads_written}
use Rattle.wh_commands.specs.ReadBack.{HaveBytes}
use Rattle.wh_messages.specs.Responses.{Page, Task, nothing, task, page_in, workflow_poll, activity_poll}

-- the list of events of a history
abbrev pub history_of : List Data → Data
history_of members = object_of ((codes "events", array (items_of members)) ∷ [])

-- a page of a run's history
abbrev pub page_result : Page → Data
page_result page = object_of (
    (codes "history", history_of page.members) ∷ (codes "nextPageToken", string page.next_page) ∷ [])

abbrev pub run_result : RunKey → Data
run_result run = object_of ((codes "workflowId", string run.workflow_id) ∷ (codes "runId", string run.run_id) ∷ [])

-- a workflow task, with the queries beside it
abbrev pub task_result : Task → Data
task_result polled = object_of (
    (codes "taskToken", string polled.token) ∷ (codes "workflowExecution", run_result polled.run)
    ∷ (codes "attempt", number (unsigned polled.attempt)) ∷ (codes "history", history_of polled.members)
    ∷ (codes "nextPageToken", string polled.next_page) ∷ (codes "queries", object polled.queries) ∷ [])

-- the details of a heartbeat, if there are any
abbrev pub details_result : Option (List Payload) → List (List ℕ × Data)
details_result None = []
details_result (Some details) = (codes "heartbeatDetails", payloads_written details) ∷ []

-- an activity task, with these details of an earlier attempt
abbrev pub activity_with : PolledActivity → Option (List Payload) → Data
activity_with polled details = object_of (
    (codes "taskToken", string polled.token) ∷ (codes "workflowExecution", run_result polled.run)
    ∷ (codes "activityId", string polled.id) ∷ (codes "activityType", named polled.activity)
    ∷ (codes "input", payloads_written polled.input) ∷ (codes "attempt", number (unsigned polled.info.attempt))
    ∷ details_result details)

-- an activity task
abbrev pub activity_result : PolledActivity → Data
activity_result polled = activity_with polled polled.info.heartbeat_details

-- both ids of a run are present
abbrev pub IsNamed : RunKey → Type 0
IsNamed run = (run.workflow_id ≢ []) × (run.run_id ≢ [])

-- a page is read as it was written
abbrev pub PageIsRead : Type 0
PageIsRead = (page : Page) → page_in (page_result page) ≡ Some page

-- a workflow task is read as it was written: under its own token, with its own run, events and queries
abbrev pub TaskIsRead : Type 0
TaskIsRead = (polled : Task) → polled.token ≢ [] → IsNamed polled.run → polled.attempt < 2 ^ 63
    → workflow_poll (task_result polled) ≡ task polled

-- what is known of an attempt: its number is from 1 to 2^63 - 1, the details have bytes, and no time is told
pub record IsTold (info : ActivityInfo) : Type 0 where
  pub counted : 0 < info.attempt
  pub fits : info.attempt < 2 ^ 63
  pub details : IfSome info.heartbeat_details HaveBytes
  pub times : info.times ≡ no_times

-- an activity task is read as it was written, with the attempt and the details of an earlier one
abbrev pub ActivityIsRead : Type 0
ActivityIsRead = (polled : PolledActivity) → polled.token ≢ [] → IsNamed polled.run
    → polled.id ≢ [] → polled.activity ≢ []
    → HaveBytes polled.input → IsTold polled.info → activity_poll (activity_result polled) ≡ activity.Task polled

-- a response without any field is an empty poll
abbrev pub EmptyIsNothing : Type 0
EmptyIsNothing = (workflow_poll (object_of []) ≡ nothing) × (activity_poll (object_of []) ≡ activity.Nothing)
