-- Which tasks a live source delivers, which histories it fetches, and what it notes.
use Rattle.std.specs.Prelude.{◌≡◌, ◌⊎◌, ℕ, ◌≤◌, ◌+◌, ◌==◌, ◌++◌, Bool, not, List, [], length, take, drop, position, count_by, Option, Some, None, if◌then◌else◌}
use Rattle.serde_json.specs.Data.{Data}
use Rattle.wh_client.specs.Calls.{Gives}
use Rattle.wh_client.specs.Histories.{HasAllMembers, IsWhole, ReadsEvents}
use Rattle.wh_client.specs.Polls.{IsActivityPoll, IsWorkflowPoll}
use Rattle.wh_client.specs.Roles.{polls_sticky}
use Rattle.wh_client.specs.declared.notes.PollOutcome.{PollOutcome}
use Rattle.wh_client.specs.declared.notes.SourceNote.{SourceNote}
use Rattle.wh_client.specs.declared.options.TaskQueueKind.{TaskQueueKind}
use Rattle.wh_client.specs.declared.options.TaskQueueKind.TheVariants.{Normal, Sticky, Activities}
use Rattle.wh_events.specs.declared.event.Event.{Event}
use Rattle.wh_events.specs.declared.key.RunKey.{RunKey}
use Rattle.wh_events.specs.Keys.{same_key}
use Rattle.wh_live.specs.Kinds.{kinds_noted, kinds_sent}
use Rattle.wh_notes.specs.declared.tallies.Tally.{Tally}
use Rattle.wh_notes.specs.Laws.{is_poll_with, is_task}
use Rattle.wh_notes.specs.Notes.{is_answer, is_empty}
use Rattle.wh_notes.specs.Tallies.{no_failures}
use Rattle.wh_commands.specs.declared.names.WorkerNames.{WorkerNames}
use Rattle.wh_messages.specs.declared.response.ActivityPoll.TheVariants.{Task}
use Rattle.wh_messages.specs.declared.response.PolledActivity.{PolledActivity}
use Rattle.wh_messages.specs.Responses as read
use Rattle.wh_tasks.specs.declared.source.WorkflowTask.{WorkflowTask}
use Rattle.wh_tasks.specs.declared.source.ActivityTask.{ActivityTask}
use Rattle.wh_tasks.specs.Numbers.{last_number}
use Rattle.wh_slots.specs.declared.TaskName.{TaskName}
use Rattle.wh_tasks.specs.Source.{Answers, Delivery, Workflow, Activity}

-- ---- Workflow tasks

-- the task is the one that a poll returned, with the events of all its pages
pub record IsTaskOf (gives : Gives) (names : WorkerNames) (polled : read.Task) (task : WorkflowTask) : Type 0 where
  pub run : task.run ≡ polled.run
  pub members : List Data
  pub all : HasAllMembers gives names polled.run polled.next_page polled.members members
  pub events : ReadsEvents members task.events

-- the task was read from the result of a poll of a queue
pub record IsWorkflowTask (gives : Gives) (names : WorkerNames) (sticky : Bool) (task : WorkflowTask) : Type 0 where
  pub polled : read.Task
  pub poll : IsWorkflowPoll gives names sticky (read.task polled)
  pub is : IsTaskOf gives names polled task

-- ---- Activity tasks

-- the task is the one that a poll returned
pub record IsActivityOf (polled : PolledActivity) (task : ActivityTask) : Type 0 where
  pub run : task.run ≡ polled.run
  pub id : task.id ≡ polled.id
  pub activity : task.activity ≡ polled.activity
  pub input : task.input ≡ polled.input

-- the task was read from the result of a poll
pub record IsActivityTask (gives : Gives) (names : WorkerNames) (task : ActivityTask) : Type 0 where
  pub polled : PolledActivity
  pub poll : IsActivityPoll gives names (Task polled)
  pub is : IsActivityOf polled task

-- ---- A source

-- a workflow task of the queue, if there is one
abbrev pub FromQueue : Gives → WorkerNames → Option Bool → WorkflowTask → Type 0
FromQueue gives names None task = ⊥
FromQueue gives names (Some sticky) task = IsWorkflowTask gives names sticky task

-- an activity task, for the workers of activities
abbrev pub FromActivities : Gives → WorkerNames → TaskQueueKind → ActivityTask → Type 0
FromActivities gives names Activities task = IsActivityTask gives names task
FromActivities gives names Normal task = ⊥
FromActivities gives names Sticky task = ⊥

-- the source of a role delivers what was read from the results of its polls
abbrev pub Delivers : Gives → WorkerNames → TaskQueueKind → Delivery → Type 0
Delivers gives names role (Workflow task) = FromQueue gives names (polls_sticky role) task
Delivers gives names role (Activity task) = FromActivities gives names role task

-- ---- Histories

-- the events from an index on, if there is one
abbrev pub from_place : Option ℕ → List Event → List Event
from_place None events = []
from_place (Some place) events = drop place events

-- the later events of a run that continue its history: from the one with the next number on
abbrev pub going_on : List Event → List Event → List Event
going_on history later = from_place (position (λ event. event.number == last_number history + 1) later) later

-- a history continued by the later events that follow its end
abbrev pub continued : List Event → List Event → List Event
continued history later = history ++ going_on history later

-- the history of a run, read from all pages of it and continued by later events, up to a number
pub record IsFetched (gives : Gives) (names : WorkerNames) (run : RunKey) (later : List Event) (up_to : ℕ)
    (history : List Event) : Type 0 where
  pub members : List Data
  pub whole : IsWhole gives names run members
  pub events : List Event
  pub are : ReadsEvents members events
  pub cut : history ≡ take up_to (continued events later)

-- later events of a run: none, or those of a task of the run that a queue returned. A task that the server has not
-- written into the history yet (an update makes one) has events that are on no page
abbrev pub AreLater : Gives → WorkerNames → Option Bool → RunKey → List Event → Type 0
AreLater gives names queue run later =
    (later ≡ []) ⊎ ((task : WorkflowTask) × FromQueue gives names queue task × (task.run ≡ run) × (task.events ≡ later))

-- the source of a role fetches the history of a run, continued by the events of its own task
abbrev pub Fetches : Gives → WorkerNames → TaskQueueKind → RunKey → ℕ → List Event → Type 0
Fetches gives names role run up_to history =
    (later : List Event) × AreLater gives names (polls_sticky role) run later
    × IsFetched gives names run later up_to history

-- the later events that a source keeps of the open task, if that is one of this run
abbrev pub later_in : Option (RunKey × List Event) → RunKey → List Event
later_in None run = []
later_in (Some kept) run = if same_key kept.0 run then kept.1 else []

-- what is kept are later events of a task that a queue returned
abbrev pub HasKept : Gives → WorkerNames → Option Bool → Option (RunKey × List Event) → Type 0
HasKept gives names queue None = Unit {0}
HasKept gives names queue (Some kept) = AreLater gives names queue kept.0 kept.1

-- ---- What a source is

-- a source as its callers see it: its role and names, its answers that count as taken, how often it has failed, what it
-- has noted, the task whose answer the server acknowledged since the last poll, and the later events of the open task,
-- with its run
pub record LiveView : Type 0 where
  pub role : TaskQueueKind
  pub names : WorkerNames
  pub answers : Answers
  pub tally : Tally
  pub notes : List SourceNote
  pub acknowledged : Option TaskName
  pub later : Option (RunKey × List Event)

-- a source that has not polled yet
abbrev pub fresh : TaskQueueKind → WorkerNames → LiveView
fresh role names = record {
  role = role;
  names = names;
  answers = [];
  tally = no_failures;
  notes = [];
  acknowledged = None;
  later = None;
}

-- how many tasks are open
abbrev pub open_count : Option (RunKey × List Event) → ℕ
open_count None = 0
open_count (Some kept) = 1

-- a poll brought something, or failed
abbrev pub is_not_empty : PollOutcome → Bool
is_not_empty outcome = not (is_empty outcome)

-- a source comes from an earlier one: it has the same role and names, its answers and its notes begin with those of the
-- earlier one, and it has at least as many failures
pub record ComesFrom (later first : LiveView) : Type 0 where
  pub role : later.role ≡ first.role
  pub names : later.names ≡ first.names
  pub more : Answers
  pub answers : later.answers ≡ first.answers ++ more
  pub failures : first.tally.failures ≤ later.tally.failures
  pub more_notes : List SourceNote
  pub notes : later.notes ≡ first.notes ++ more_notes
  -- each answer that counts as taken is noted so, as the completion or failure that it is, and no other is, but for
  -- failures of workflow tasks
  pub kinds : kinds_noted more_notes ≡ kinds_sent more
  -- no more answers count as taken than polls brought tasks or queries, and tasks were open before
  pub polled : length more + open_count later.later
      ≤ count_by (is_poll_with is_task) more_notes + open_count first.later
  -- no more answers are noted than polls that were not empty, and tasks were open before
  pub noted : count_by is_answer more_notes + open_count later.later
      ≤ count_by (is_poll_with is_not_empty) more_notes + open_count first.later
