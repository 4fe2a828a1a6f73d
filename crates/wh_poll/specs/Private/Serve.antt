-- The part of Serve that only contracts of private functions cite.
use Rattle.std.specs.Prelude.{◌≡◌, List, [], ◌∷◌, ◌++◌, Option, Some, None, Result, Ok, Err}
use Rattle.wh_slots.specs.declared.TaskName.{TaskName}
use Rattle.wh_slots.specs.declared.ReserveFault.{ReserveFault}
use Rattle.wh_slots.specs.declared.ReserveFault.TheVariants.{NoSlot as NoSlotIsFree, Draining as HostDrains, NumbersSpent as NoNumberIsLeft}
use Rattle.wh_events.specs.declared.event.Event.{Event}
use Rattle.wh_events.specs.declared.memory.OutOfMemory.{OutOfMemory as NoMemoryLeft}
use Rattle.wh_replay.specs.declared.fault.Fault.{Fault}
use Rattle.wh_replay.specs.declared.run.Answer.{Answer}
use Rattle.wh_workflow.specs.Law.{Program}
use Rattle.wh_replay.specs.Runs.{Held}
use Rattle.wh_host.specs.declared.reply.Outcome.{Outcome}
use Rattle.wh_host.specs.declared.reply.Outcome.TheVariants.{Failed}
use Rattle.wh_tasks.specs.declared.source.Acceptance.{Acceptance}
use Rattle.wh_tasks.specs.declared.source.SourceFault.{SourceFault}
use Rattle.wh_tasks.specs.declared.source.WorkflowTask.{WorkflowTask}
use Rattle.wh_tasks.specs.declared.source.ActivityTask.{ActivityTask}
use Rattle.wh_tasks.specs.declared.source.ActivityAnswer.{ActivityAnswer}
use Rattle.wh_tasks.specs.declared.task.StepFault.{StepFault}
use Rattle.wh_tasks.specs.declared.task.StepFault.TheVariants.{Source, OutOfMemory}
use Rattle.wh_poll.specs.declared.answer.Reply.{Reply}
use Rattle.wh_poll.specs.declared.serve.Served.{Served}
use Rattle.wh_poll.specs.declared.serve.Served.TheVariants.{Workflow, Activity, NoMemory, Repeated, Idle, Closed, NoSlot, Draining, NumbersSpent}
use Rattle.wh_poll.specs.declared.serve.TurnStart.{TurnStart}
use Rattle.wh_poll.specs.declared.serve.TurnStart.TheVariants.{Task, Over}
use Rattle.wh_tasks.specs.declared.source.Sent.TheVariants.{Workflow as OfWorkflow, Activity as OfActivity}
use Rattle.wh_tasks.specs.Source.{MayFetch, Answerable, Answers}
use Rattle.wh_tasks.specs.Tasks.{IsAnswer}
use Rattle.wh_poll.specs.Serve.{outcome_of, activity_outcome, IsReply}

-- the events that a run holds, or none if there is no run
abbrev pub held_by : Option Held → List Event
held_by None = []
held_by (Some run) = run.events

-- how a workflow task ends: as its reply says, and failed if nothing was sent
abbrev pub ended : Result Reply StepFault → Outcome
ended (Ok reply) = reply.outcome
ended (Err fault) = Failed

-- the outcome of a task if the source accepted its answer, else why it did not
abbrev pub outcome_if_sent : {A : Type 0} → Result A SourceFault → Outcome → Result Outcome StepFault
outcome_if_sent (Ok x) outcome = Ok outcome
outcome_if_sent (Err fault) outcome = Err (Source fault)

-- the result of a turn that got no slot
abbrev pub unreserved : ReserveFault → Served
unreserved NoSlotIsFree = NoSlot
unreserved HostDrains = Draining
unreserved NoNumberIsLeft = NumbersSpent

-- the turn has the result of one whose poll returned no task
abbrev pub HasNoTask : Result Served SourceFault → Type 0
HasNoTask (Ok Idle) = Unit {0}
HasNoTask (Ok Closed) = Unit {0}
HasNoTask (Ok _) = ⊥
HasNoTask (Err fault) = Unit {0}

-- one property holds for the task that a turn goes on with, or the other for the result of the turn without one
abbrev pub Starts : {A : Type 0} → (A → Type 0) → (Result Served SourceFault → Type 0) → TurnStart A → Type 0
Starts with_task over (Task task) = with_task task
Starts with_task over (Over served) = over served

-- the turn has the result of one that did not start processing its task of the name
abbrev pub IsRefused : TaskName → Served → Type 0
IsRefused name (NoMemory own) = own ≡ name
IsRefused name (Repeated own) = own ≡ name
IsRefused name _ = ⊥

-- the one answer to a workflow task was sent, or none
abbrev pub Sends : {S : Type 0} → Program S → MayFetch → Option Held → WorkflowTask → Answers → Answers
    → Result Reply StepFault → Type 0
Sends program fetches run task old new (Ok reply) =
    (answer : Answer)
    × IsReply program fetches run task.run task.events reply.hit reply.steps reply.outcome answer
    × (new ≡ old ++ (task.name, OfWorkflow answer) ∷ [])
Sends program fetches run task old new (Err fault) = new ≡ old

-- the one answer to a workflow task after its replay was sent, or none
abbrev pub SendsAnswer : Option Held → Option Fault → TaskName → Answers → Answers → Result Outcome StepFault → Type 0
SendsAnswer stepped fault name old new (Ok outcome) =
    (answer : Answer)
    × IsAnswer stepped fault answer
    × (outcome_of answer ≡ outcome)
    × (new ≡ old ++ (name, OfWorkflow answer) ∷ [])
SendsAnswer stepped fault name old new (Err unsent) = new ≡ old

-- the source was sent the answer after a replay, with the events of the run that it returned, or with none
abbrev pub IsShown : {S : Type 0} → (Answer → List Event → Acceptance → S → Type 0) → Option Held → Option Fault → S
    → Type 0
IsShown hears stepped fault source =
    (answer : Answer) × ((acceptance : Acceptance)
    × IsAnswer stepped fault answer × hears answer (held_by stepped) acceptance source)

-- so it was, unless there was no memory for the answer
abbrev pub Shows : {S : Type 0} → (Answer → List Event → Acceptance → S → Type 0) → Option Held → Option Fault → S
    → Result Outcome StepFault → Type 0
Shows hears stepped fault source (Err OutOfMemory) = Unit {0}
Shows hears stepped fault source (Err (Source refused)) = IsShown hears stepped fault source
Shows hears stepped fault source (Ok outcome) = IsShown hears stepped fault source

-- the one answer to an activity task, which the handler may give, was sent, or none
abbrev pub SendsActivity : Answerable → ActivityTask → Answers → Answers → Result Outcome StepFault → Type 0
SendsActivity may task old new (Ok outcome) =
    (answer : ActivityAnswer)
    × may task answer
    × (activity_outcome answer ≡ outcome)
    × (new ≡ old ++ (task.name, OfActivity answer) ∷ [])
SendsActivity may task old new (Err fault) = new ≡ old

-- the handler ran once for the task, and the outcome, if its answer was sent, is that of the answer which the run gave
abbrev pub RunsOnce : {A : Type 0} → (Result ActivityAnswer NoMemoryLeft → A → Type 0) → A
    → Result Outcome StepFault → Type 0
RunsOnce ran handler (Ok outcome) =
    (answer : ActivityAnswer) × ran (Ok answer) handler × (activity_outcome answer ≡ outcome)
RunsOnce ran handler (Err fault) = (given : Result ActivityAnswer NoMemoryLeft) × ran given handler

-- the result of serving a task that got no answer, by the reason
abbrev pub unanswered : TaskName → StepFault → Result Served SourceFault
unanswered name OutOfMemory = Ok (NoMemory name)
unanswered name (Source fault) = Err fault

-- the result of serving a workflow task, by what was sent
abbrev pub served_workflow : TaskName → Result Reply StepFault → Result Served SourceFault
served_workflow name (Ok reply) = Ok (Workflow name reply.hit reply.steps reply.outcome)
served_workflow name (Err fault) = unanswered name fault

-- the result of serving an activity task, by what was sent
abbrev pub served_activity : TaskName → Result Outcome StepFault → Result Served SourceFault
served_activity name (Ok outcome) = Ok (Activity name outcome)
served_activity name (Err fault) = unanswered name fault
