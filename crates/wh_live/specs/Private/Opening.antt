-- Tasks that were opened, and are to be answered.
use Rattle.std.specs.Prelude.{◌≡◌, ◌≢◌, ◌⊎◌, ⊤, codes, ℕ, Bool, true, List, [], Option, Some, None, option_map, Result, Ok, Err, IfOk, IsSomeAnd, if◌then◌else◌}
use Rattle.serde_json.specs.Data.{Data}
use Rattle.serde_json.specs.View.{members_view}
use Rattle.wh_client.specs.Calls.{Fails, Gives}
use Rattle.wh_client.specs.Histories.{CanNotBeRead, HasAllMembers}
use Rattle.wh_client.specs.Pages.{ReadsNotOn}
use Rattle.wh_client.specs.Polls.{IsActivityPoll, IsWorkflowPoll}
use Rattle.wh_client.specs.Refusals.{HasItsStatus, IsFaultBy}
use Rattle.wh_client.specs.declared.asking.AskFault.{AskFault}
use Rattle.wh_client.specs.declared.asking.AskFault.TheVariants as asked
use Rattle.wh_client.specs.declared.codes.PollEnd.{PollEnd}
use Rattle.wh_client.specs.declared.codes.PollEnd.TheVariants.{Closed, Later}
use Rattle.wh_client.specs.declared.notes.PollOutcome.{PollOutcome}
use Rattle.wh_client.specs.declared.notes.PollOutcome.TheVariants as outcome
use Rattle.wh_client.specs.declared.options.TaskQueueKind.{TaskQueueKind}
use Rattle.wh_client.specs.declared.options.TaskQueueKind.TheVariants.{Activities}
use Rattle.wh_events.specs.declared.event.Event.{Event}
use Rattle.wh_events.specs.declared.key.RunKey.{RunKey}
use Rattle.wh_json.specs.declared.fault.ReadFault.{ReadFault}
use Rattle.wh_live.specs.Deliveries.{HasKept, IsActivityOf, IsTaskOf, later_in}
use Rattle.wh_live.specs.Private.Answering.{IsFailed}
use Rattle.wh_live.specs.Private.Noting.{Shows}
use Rattle.wh_notes.specs.Polls.{end_of}
use Rattle.wh_notes.specs.declared.results.PollResult.{PollResult}
use Rattle.wh_notes.specs.declared.results.PollResult.TheVariants as results
use Rattle.wh_live.specs.declared.tasks.OpenTask.{OpenTask}
use Rattle.wh_messages.specs.declared.response.PolledActivity.{PolledActivity}
use Rattle.wh_commands.specs.declared.names.WorkerNames.{WorkerNames}
use Rattle.wh_messages.specs.declared.response.ActivityPoll.{ActivityPoll}
use Rattle.wh_messages.specs.Requests.{poll_activity, poll_workflow}
use Rattle.wh_messages.specs.declared.request.FailedCause.TheVariants.{Unhandled}
use Rattle.wh_messages.specs.Responses.{Task}
use Rattle.wh_messages.specs.Responses as read
use Rattle.wh_replay.specs.Runs.{follows}
use Rattle.wh_slots.specs.declared.TaskName.{TaskName}
use Rattle.wh_tasks.specs.declared.source.Polled.{Polled}
use Rattle.wh_tasks.specs.declared.source.Polled.TheVariants as polled
use Rattle.wh_tasks.specs.declared.source.SourceFault.{SourceFault}
use Rattle.wh_tasks.specs.declared.source.ActivityTask.{ActivityTask}
use Rattle.wh_tasks.specs.declared.source.WorkflowTask.{WorkflowTask}
use Rattle.wh_tasks.specs.Source.{IfTask}

-- this holds for the task, if the poll returned one
abbrev pub OnTask : {A : Type 0} → (A → Type 0) → PollResult A → Type 0
OnTask p (results.Task task) = p task
OnTask p results.Empty = Unit {0}
OnTask p results.Settled = Unit {0}
OnTask p (results.Lost text) = Unit {0}

-- the members of a history are malformed
abbrev pub AreMalformed : List Data → Type 0
AreMalformed members = (fault : ReadFault) × CanNotBeRead members (asked.History fault)

-- what the members of a task's history may bring: it is settled only if they are malformed and the task was failed, and
-- never an empty poll
abbrev pub MayRead : {A : Type 0} → Gives → Fails → WorkerNames → OpenTask → List Data → PollResult A → Type 0
MayRead gives fails names task members (results.Task given) = ⊤
MayRead gives fails names task members results.Empty = ⊥
MayRead gives fails names task members results.Settled =
    AreMalformed members × IsFailed gives fails names task.token task.attempt Unhandled
MayRead gives fails names task members (results.Lost text) = ⊤

-- the history of a task, with all its pages, is malformed
pub record IsMalformed (gives : Gives) (names : WorkerNames) (polled : Task) : Type 0 where
  pub members : List Data
  pub all : HasAllMembers gives names polled.run polled.next_page polled.members members
  pub are : AreMalformed members

-- what a task that a poll returned may bring: it is settled only if its history is malformed and it was failed, and
-- never an empty poll
abbrev pub MayOpen : {A : Type 0} → Gives → Fails → WorkerNames → Task → PollResult A → Type 0
MayOpen gives fails names polled (results.Task task) = ⊤
MayOpen gives fails names polled results.Empty = ⊥
MayOpen gives fails names polled results.Settled =
    IsMalformed gives names polled × IsFailed gives fails names polled.token polled.attempt Unhandled
MayOpen gives fails names polled (results.Lost text) = ⊤

-- what a poll for workflow tasks may bring: without a task it is empty, a query is settled, and a result that can't be
-- read brings nothing
abbrev pub MayBring : {A : Type 0} → Gives → Fails → WorkerNames → read.Poll → PollResult A → Type 0
MayBring gives fails names read.nothing brings = brings ≡ results.Empty
MayBring gives fails names (read.task polled) brings = MayOpen gives fails names polled brings
MayBring gives fails names (read.query token result) brings = brings ≡ results.Settled
MayBring gives fails names read.unreadable brings = ⊥

-- the poll of a queue got a result that may bring this
pub record HasPollResult {A : Type 0} (gives : Gives) (fails : Fails) (names : WorkerNames) (sticky : Bool)
    (brings : PollResult A) : Type 0 where
  pub poll : read.Poll
  pub given : IsWorkflowPoll gives names sticky poll
  pub may : MayBring gives fails names poll brings

-- the poll gave a task
abbrev pub IsTask : {A : Type 0} → PollResult A → Type 0
IsTask (results.Task task) = ⊤
IsTask results.Empty = ⊥
IsTask results.Settled = ⊥
IsTask (results.Lost text) = ⊥

-- what a poll for activity tasks may bring: without a task it is empty, and a result that can't be read brings nothing
abbrev pub MayBringActivity : {A : Type 0} → ActivityPoll → PollResult A → Type 0
MayBringActivity ActivityPoll.Nothing brings = brings ≡ results.Empty
MayBringActivity (ActivityPoll.Task polled) brings = IsTask brings
MayBringActivity ActivityPoll.Unreadable brings = ⊥

pub record HasActivityResult {A : Type 0} (gives : Gives) (names : WorkerNames) (brings : PollResult A) : Type 0 where
  pub poll : ActivityPoll
  pub given : IsActivityPoll gives names poll
  pub may : MayBringActivity poll brings

-- the poll gave a task that is given up, with what is to be reported of it
abbrev pub IsLost : {A : Type 0} → PollResult A → Type 0
IsLost (results.Task task) = ⊥
IsLost results.Empty = ⊥
IsLost results.Settled = ⊥
IsLost (results.Lost text) = ⊤

-- a task that a poll returned is not opened, and nothing is said of it: the bridge has closed, or there was no memory
abbrev pub IsSilent : AskFault → Type 0
IsSilent asked.Closed = ⊤
IsSilent asked.Output = ⊥
IsSilent (asked.Refused status code message) = ⊥
IsSilent asked.Unreadable = ⊥
IsSilent asked.TooManyPages = ⊥
IsSilent (asked.History fault) = ⊥
IsSilent asked.OutOfMemory = ⊤

-- a task is answered with its token, in its attempt, with the results of its queries, and under the name under which it
-- is delivered, which is the id of the poll; it came at a time that a clock showed
pub record Opens (shows : Shows) (id : ℕ) (polled : Task) (opened : OpenTask) (given : TaskName) : Type 0 where
  pub numbered : given.0 ≡ id
  pub name : opened.name ≡ given
  pub token : opened.token ≡ polled.token
  pub run : opened.run ≡ polled.run
  pub attempt : opened.attempt ≡ polled.attempt
  pub queries : members_view opened.queries.entries ≡ polled.queries
  pub came : shows opened.since

-- the same for an activity task
pub record OpensActivity (shows : Shows) (id : ℕ) (polled : PolledActivity) (opened : OpenTask) (given : TaskName) : Type 0 where
  pub numbered : given.0 ≡ id
  pub name : opened.name ≡ given
  pub token : opened.token ≡ polled.token
  pub run : opened.run ≡ polled.run
  pub came : shows opened.since

-- the task that a poll of a queue returned is delivered, and is the open one
pub record OpensPolled (gives : Gives) (shows : Shows) (names : WorkerNames) (sticky : Bool) (opened : OpenTask)
    (task : WorkflowTask) : Type 0 where
  pub id : ℕ
  pub polled : Task
  pub poll : IsWorkflowPoll gives names sticky (read.task polled)
  pub is : IsTaskOf gives names polled task
  pub opens : Opens shows id polled opened task.name

-- the same for the queue of a source, if it has one
abbrev pub OpensQueued : Gives → Shows → WorkerNames → Option Bool → OpenTask → WorkflowTask → Type 0
OpensQueued gives shows names None opened task = ⊥
OpensQueued gives shows names (Some sticky) opened task = OpensPolled gives shows names sticky opened task

-- the activity task that a poll returned is delivered, and is the open one
pub record OpensPolledActivity (gives : Gives) (shows : Shows) (names : WorkerNames) (opened : OpenTask)
    (task : ActivityTask) : Type 0 where
  pub id : ℕ
  pub polled : PolledActivity
  pub poll : IsActivityPoll gives names (ActivityPoll.Task polled)
  pub is : IsActivityOf polled task
  pub opens : OpensActivity shows id polled opened task.name

-- a task that is delivered is the one that is open, and both are from one poll
abbrev pub GivesOpened : {A : Type 0} → (OpenTask → A → Type 0)
    → Result (Polled A) SourceFault → Option OpenTask → Type 0
GivesOpened p result open_task = IfOk result (IfTask (λ task. IsSomeAnd open_task (λ opened. p opened task)))

-- the events of a task that does not come with the first event of its run
abbrev pub later_events : List Event → List Event
later_events events = if follows 0 events then [] else events

-- the open task keeps its token, run, attempt, queries, time and name, under which it is delivered
pub record StaysOpen (old new : OpenTask) (given : TaskName) : Type 0 where
  pub kept : old.name ≡ given
  pub name : new.name ≡ given
  pub token : new.token ≡ old.token
  pub run : new.run ≡ old.run
  pub attempt : new.attempt ≡ old.attempt
  pub queries : new.queries ≡ old.queries
  pub since : new.since ≡ old.since

-- if the poll returned a task it is delivered and opened; otherwise the open task stays
abbrev pub IsOpened : {A : Type 0} → Result (Polled (OpenTask × A)) SourceFault → Option OpenTask
    → Result (Polled A) SourceFault → Option OpenTask → Type 0
IsOpened (Ok (polled.Task pair)) old result new = (result ≡ Ok (polled.Task pair.1)) × (new ≡ Some pair.0)
IsOpened (Ok polled.Nothing) old result new = (result ≡ Ok polled.Nothing) × (new ≡ old)
IsOpened (Ok polled.Closed) old result new = (result ≡ Ok polled.Closed) × (new ≡ old)
IsOpened (Err fault) old result new = (result ≡ Err fault) × (new ≡ old)

-- a poll that delivers no task leaves the open one
abbrev pub LeavesOpen : {A : Type 0} → Result (Polled A) SourceFault → (old new : Option OpenTask) → Type 0
LeavesOpen (Ok (polled.Task task)) old new = ⊤
LeavesOpen (Ok polled.Nothing) old new = new ≡ old
LeavesOpen (Ok polled.Closed) old new = new ≡ old
LeavesOpen (Err fault) old new = new ≡ old

-- ---- Later events

-- the run of a task and its later events
abbrev pub later_kept : OpenTask → RunKey × List Event
later_kept task = (task.run, task.later.items)

-- the later events of the open task, if it is one of this run
abbrev pub later_of : Option OpenTask → RunKey → List Event
later_of open_task run = later_in (option_map later_kept open_task) run

-- the later events of an open task are those of a task that the queue returned
abbrev pub HasLater : Gives → WorkerNames → Option Bool → Option OpenTask → Type 0
HasLater gives names queue open_task = HasKept gives names queue (option_map later_kept open_task)

-- the open task is as before, or none is
abbrev pub KeepsLater : Option OpenTask → Option OpenTask → Type 0
KeepsLater old new = (new ≡ None) ⊎ (option_map later_kept new ≡ option_map later_kept old)

-- ---- Polls that bring nothing

-- the bridge closed before all pages of the history of a task were fetched
abbrev pub IsCutShort : Gives → Fails → WorkerNames → Task → Type 0
IsCutShort gives fails names polled = ReadsNotOn gives fails names polled.run polled.next_page asked.Closed

-- why a poll of a queue brings nothing: the call came to this, its result can't be read, or the bridge closed before all
-- pages of its task were fetched
abbrev pub IsWorkflowFault : Gives → Fails → WorkerNames → Bool → AskFault → Type 0
IsWorkflowFault gives fails names sticky fault =
    IsFaultBy (fails (codes "PollWorkflowTaskQueue") (poll_workflow names sticky)) fault
    ⊎ (((fault ≡ asked.Unreadable) × IsWorkflowPoll gives names sticky read.unreadable)
    ⊎ ((fault ≡ asked.Closed)
    × ((polled : Task) × IsWorkflowPoll gives names sticky (read.task polled) × IsCutShort gives fails names polled)))

-- why a poll for activity tasks brings nothing: the call came to this, or its result can't be read
abbrev pub IsActivityFault : Gives → Fails → WorkerNames → AskFault → Type 0
IsActivityFault gives fails names fault =
    IsFaultBy (fails (codes "PollActivityTaskQueue") (poll_activity names)) fault
    ⊎ ((fault ≡ asked.Unreadable) × IsActivityPoll gives names ActivityPoll.Unreadable)

-- ---- What polls come to

-- a poll came to a fault after which this follows
pub record EndsIn (end : PollEnd) (came : AskFault → Type 0) : Type 0 where
  pub fault : AskFault
  pub is : came fault
  pub status : HasItsStatus fault
  pub ends : end_of fault ≡ end

-- the result of a poll is a task or a query
abbrev pub IsFilled : read.Poll → Type 0
IsFilled read.nothing = ⊥
IsFilled (read.task polled) = ⊤
IsFilled (read.query token result) = ⊤
IsFilled read.unreadable = ⊥

-- what a poll of a queue that brought its worker no task came to: an empty response; a task that is settled or given up,
-- or a query; or a fault after which a later poll may succeed
abbrev pub CameTo : Gives → Fails → WorkerNames → Bool → PollOutcome → Type 0
CameTo gives fails names sticky outcome.Empty = IsWorkflowPoll gives names sticky read.nothing
CameTo gives fails names sticky outcome.Task =
    (poll : read.Poll) × IsFilled poll × IsWorkflowPoll gives names sticky poll
CameTo gives fails names sticky outcome.Failure = EndsIn Later (IsWorkflowFault gives fails names sticky)

-- the same for the queue of a source, if it has one
abbrev pub QueueCameTo : Gives → Fails → WorkerNames → Option Bool → PollOutcome → Type 0
QueueCameTo gives fails names None of = ⊥
QueueCameTo gives fails names (Some sticky) of = CameTo gives fails names sticky of

-- what a poll for activity tasks that brought none came to: each task is delivered
abbrev pub ActivitiesCameTo : Gives → Fails → WorkerNames → PollOutcome → Type 0
ActivitiesCameTo gives fails names outcome.Empty = IsActivityPoll gives names ActivityPoll.Nothing
ActivitiesCameTo gives fails names outcome.Task = ⊥
ActivitiesCameTo gives fails names outcome.Failure = EndsIn Later (IsActivityFault gives fails names)

-- ---- Closed sources

-- why a source is closed for workflow tasks: it was ended before, or polls no queue for them, or its poll was closed
abbrev pub ClosesQueue : Gives → Fails → WorkerNames → Option Bool → Bool → Type 0
ClosesQueue gives fails names queue ended = (ended ≡ true) ⊎ ((queue ≡ None)
    ⊎ ((sticky : Bool) × (queue ≡ Some sticky) × EndsIn Closed (IsWorkflowFault gives fails names sticky)))

-- the same for activity tasks
abbrev pub ClosesActivities : Gives → Fails → WorkerNames → TaskQueueKind → Bool → Type 0
ClosesActivities gives fails names role ended =
    (ended ≡ true) ⊎ ((role ≢ Activities) ⊎ EndsIn Closed (IsActivityFault gives fails names))
