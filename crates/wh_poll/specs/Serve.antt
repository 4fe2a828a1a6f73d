-- What one turn of a worker does.
use Rattle.std.specs.Prelude.{◌≡◌, ◌⊎◌, ℕ, Bool, List, [], ◌∷◌, ◌++◌, Option, Result, Ok, Err, IfSome}
use Rattle.wh_slots.specs.declared.SlotKind.{SlotKind}
use Rattle.wh_slots.specs.declared.SlotKind.TheVariants.{Workflow as WorkflowKind, Activity as ActivityKind}
use Rattle.wh_slots.specs.declared.TaskName.{TaskName}
use Rattle.wh_events.specs.declared.event.Event.{Event}
use Rattle.wh_replay.specs.declared.fault.Fault.{Fault}
use Rattle.wh_events.specs.declared.key.RunKey.{RunKey}
use Rattle.wh_replay.specs.declared.run.Answer.{Answer}
use Rattle.wh_replay.specs.declared.run.Answer.TheVariants.{Complete, Fail}
use Rattle.wh_workflow.specs.Law.{Program}
use Rattle.wh_replay.specs.Runs.{Held, history_of, IsReplayed}
use Rattle.wh_host.specs.declared.ledger.Shares.{Shares}
use Rattle.wh_host.specs.declared.reply.Outcome.{Outcome}
use Rattle.wh_host.specs.declared.reply.Outcome.TheVariants.{Completed, Failed}
use Rattle.wh_host.specs.Machine.{with_outcome, with_taken}
use Rattle.wh_tasks.specs.declared.source.SourceFault.{SourceFault}
use Rattle.wh_tasks.specs.declared.source.WorkflowTask.{WorkflowTask}
use Rattle.wh_tasks.specs.declared.source.ActivityTask.{ActivityTask}
use Rattle.wh_tasks.specs.declared.source.ActivityAnswer.{ActivityAnswer}
use Rattle.wh_tasks.specs.declared.source.ActivityAnswer.TheVariants.{Completed as Done, Failed as Undone}
use Rattle.wh_poll.specs.declared.serve.Served.{Served}
use Rattle.wh_poll.specs.declared.serve.Served.TheVariants.{Workflow, Activity, NoMemory, Repeated, Idle, Closed, NoSlot, Draining, NumbersSpent}
use Rattle.wh_tasks.specs.declared.source.Sent.TheVariants.{Workflow as OfWorkflow, Activity as OfActivity}
use Rattle.wh_tasks.specs.Source.{Delivers, MayFetch, Answerable, Answers, Workflow as WorkflowDelivery, Activity as ActivityDelivery}
use Rattle.wh_tasks.specs.Tasks.{Steps, IsAnswer}

-- a workflow task answered with `Complete` is completed, any other failed
abbrev pub outcome_of : Answer → Outcome
outcome_of (Complete commands) = Completed
outcome_of (Fail fault) = Failed

-- an activity task answered with a result is completed, any other failed
abbrev pub activity_outcome : ActivityAnswer → Outcome
activity_outcome (Done result) = Completed
activity_outcome (Undone reason) = Failed

-- the answer is that of replay of the task, with no run or a replayed one of its key, over a new meter
pub record IsReply {S : Type 0} (program : Program S) (fetches : MayFetch) (run : Option Held) (key : RunKey)
    (events : List Event) (hit : Bool) (steps : ℕ) (outcome : Outcome) (answer : Answer) : Type 0 where
  pub own : IfSome run (λ r. r.key ≡ key)
  pub real : IfSome run (λ r. IsReplayed program (history_of r))
  pub stepped : Option Held
  pub fault : Option Fault
  pub replayed : Steps program fetches run key events stepped fault hit 0 steps
  pub answered : IsAnswer stepped fault answer
  pub ends : outcome_of answer ≡ outcome

-- exactly one answer was sent, under the name of a delivered workflow task: that of its replay
pub record AnswersWorkflow {S : Type 0} (program : Program S) (fetches : MayFetch) (delivers : Delivers)
    (old new : Answers) (name : TaskName) (hit : Bool) (steps : ℕ) (outcome : Outcome) : Type 0 where
  pub task : WorkflowTask
  pub delivered : delivers (WorkflowDelivery task)
  pub named : task.name ≡ name
  pub run : Option Held
  pub answer : Answer
  pub reply : IsReply program fetches run task.run task.events hit steps outcome answer
  pub sent : new ≡ old ++ (name, OfWorkflow answer) ∷ []

-- exactly one answer was sent, under the name of a delivered activity task: one that the handler may give
pub record AnswersActivity (may : Answerable) (delivers : Delivers)
    (old new : Answers) (name : TaskName) (outcome : Outcome) : Type 0 where
  pub task : ActivityTask
  pub delivered : delivers (ActivityDelivery task)
  pub named : task.name ≡ name
  pub answer : ActivityAnswer
  pub allowed : may task answer
  pub ends : activity_outcome answer ≡ outcome
  pub sent : new ≡ old ++ (name, OfActivity answer) ∷ []

-- a task of this name and kind is delivered
abbrev pub IsDelivered : SlotKind → Delivers → TaskName → Type 0
IsDelivered WorkflowKind delivers name = (task : WorkflowTask) × delivers (WorkflowDelivery task) × (task.name ≡ name)
IsDelivered ActivityKind delivers name = (task : ActivityTask) × delivers (ActivityDelivery task) × (task.name ≡ name)

-- nothing was sent, and a task that got no answer is a delivered one of the kind
abbrev pub SendsNothing : SlotKind → Delivers → Answers → Answers → Result Served SourceFault → Type 0
SendsNothing kind delivers old new (Ok (Workflow name hit steps outcome)) = ⊥
SendsNothing kind delivers old new (Ok (Activity name outcome)) = ⊥
SendsNothing kind delivers old new (Ok (NoMemory name)) = (new ≡ old) × IsDelivered kind delivers name
SendsNothing kind delivers old new (Ok (Repeated name)) = (new ≡ old) × IsDelivered kind delivers name
SendsNothing kind delivers old new (Ok Idle) = new ≡ old
SendsNothing kind delivers old new (Ok Closed) = new ≡ old
SendsNothing kind delivers old new (Ok NoSlot) = new ≡ old
SendsNothing kind delivers old new (Ok Draining) = new ≡ old
SendsNothing kind delivers old new (Ok NumbersSpent) = new ≡ old
SendsNothing kind delivers old new (Err fault) = new ≡ old

-- one answer was sent if a workflow task was served, and none otherwise
abbrev pub ServesWorkflow : {S : Type 0} → Program S → MayFetch → Delivers → Answers → Answers
    → Result Served SourceFault → Type 0
ServesWorkflow program fetches delivers old new (Ok (Workflow name hit steps outcome)) =
    AnswersWorkflow program fetches delivers old new name hit steps outcome
ServesWorkflow program fetches delivers old new served = SendsNothing WorkflowKind delivers old new served

-- one answer was sent if an activity task was served, and none otherwise
abbrev pub ServesActivity : Answerable → Delivers → Answers → Answers → Result Served SourceFault → Type 0
ServesActivity may delivers old new (Ok (Activity name outcome)) = AnswersActivity may delivers old new name outcome
ServesActivity may delivers old new served = SendsNothing ActivityKind delivers old new served

-- one answer was sent if a task was served, which is of the kind asked for, and none otherwise
abbrev pub Serves : {S : Type 0} → SlotKind → Program S → MayFetch → Delivers → Answerable → Answers → Answers
    → Result Served SourceFault → Type 0
Serves WorkflowKind program fetches delivers may old new served = ServesWorkflow program fetches delivers old new served
Serves ActivityKind program fetches delivers may old new served = ServesActivity may delivers old new served

-- at most the outcome was counted
abbrev pub MayCount : Shares → Shares → Outcome → Type 0
MayCount old new outcome = (new ≡ old) ⊎ (new ≡ with_outcome outcome old)

-- a task was taken, and at most its outcome was counted
abbrev pub Takes : Shares → Shares → Outcome → Type 0
Takes old new outcome = MayCount (with_taken old) new outcome

-- what the seat counted in a turn, by its result
abbrev pub Counts : Shares → Shares → Result Served SourceFault → Type 0
Counts old new (Ok (Workflow name hit steps outcome)) = Takes old new outcome
Counts old new (Ok (Activity name outcome)) = Takes old new outcome
Counts old new (Ok (NoMemory name)) = (new ≡ old) ⊎ Takes old new Failed
Counts old new (Ok (Repeated name)) = new ≡ old
Counts old new (Ok Idle) = new ≡ old
Counts old new (Ok Closed) = new ≡ old
Counts old new (Ok NoSlot) = new ≡ old
Counts old new (Ok Draining) = new ≡ old
Counts old new (Ok NumbersSpent) = new ≡ old
Counts old new (Err fault) = (new ≡ old) ⊎ Takes old new Failed
