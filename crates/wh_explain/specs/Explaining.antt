-- The explanation of the tasks of a history.
use Rattle.std.specs.Prelude.{◌≡◌, ℕ, Bool, true, false, List, [], ◌∷◌, Option, Some, None, Result, Ok, Err, if◌then◌else◌}
use Rattle.std.specs.List.{list_any}
use Rattle.wh_events.specs.declared.event.Event.{Event}
use Rattle.wh_events.specs.Cuts.{cuts}
use Rattle.wh_events.specs.Places.{history_fault}
use Rattle.wh_activation.specs.Cutting.{jobs_at}
use Rattle.wh_json.specs.declared.fault.ReadFault.{ReadFault}
use Rattle.wh_workflow.specs.declared.command.Command.{Command}
use Rattle.wh_workflow.specs.declared.job.Job.{Job}
use Rattle.wh_workflow.specs.declared.fault.WorkflowFault.{WorkflowFault}
use Rattle.wh_workflow.specs.Law.{Program}
use Rattle.wh_workflow.specs.Scripts.{ActivationContext, Settled, reduced}
use Rattle.wh_workflow.specs.ActivationScripts.{Step, IsLongest, fault_in, issued_in, settled_after, state_after}
use Rattle.wh_replay.specs.declared.fault.Fault.{Fault}
use Rattle.wh_replay.specs.Replays.{workflow_of}
use Rattle.wh_replay.specs.Tracking.{in_place}
use Rattle.wh_replay.specs.Views.{context_after}
use Rattle.wh_explained_tasks.specs.declared.Ending.{Ending}
use Rattle.wh_explained_tasks.specs.declared.Ending.TheVariants.{Refused, Live, Recorded}
use Rattle.wh_explained_tasks.specs.declared.ExplainedTask.{ExplainedTask}
use Rattle.wh_explain.specs.Numbers.{numbers_at}
use Rattle.wh_explain.specs.Pairings.{pairings, differs}

-- how a task ends that sends these commands: it is not recorded yet, or the commands are paired with the record
abbrev pub sent_ending : List Event → List Command → Option (List Event) → Ending
sent_ending events sent None = Live sent
sent_ending events sent (Some recorded) = Recorded (pairings events sent recorded)

-- the ending, or `Refused` if a command is invalid
abbrev pub unless_refused : Option WorkflowFault → Ending → Ending
unless_refused None ending = ending
unless_refused (Some fault) ending = Refused

-- how a task of these steps ends: the last command is invalid, or what is sent of the commands of the steps is not
-- recorded yet or is paired with the record
abbrev pub ending_of : List Event → ActivationContext → Settled → List Step → Ending
ending_of events context settled steps =
    let sent = reduced context (issued_in context settled steps) in
    unless_refused (fault_in context settled [] steps) (sent_ending events sent context.recorded)

-- no task follows: a command is invalid, or the commands that are sent differ from the record
abbrev pub stops : Ending → Bool
stops Refused = true
stops (Live _) = false
stops (Recorded pairings) = list_any differs pairings

module _ {S : Type 0} where
  -- the explanation of a task that is given these jobs by events of these numbers: its number, the numbers of these
  -- events, the longest script of the activation, from a state and settled versions, and how the task ends
  pub record IsTaskAt (program : Program S) (events : List Event) (context : ActivationContext) (jobs : List Job)
      (numbers : List ℕ) (at : ℕ) (state : S) (settled : Settled) (task : ExplainedTask) : Type 0 where
    pub number : task.at ≡ at
    pub given : task.given ≡ numbers
    pub steps : IsLongest program context jobs state settled task.steps
    pub ending : task.ending ≡ ending_of events context settled task.steps

  -- the explanation of the task at the cut `number` of a history; `last` is the number of the cut before
  abbrev pub IsTask : Program S → List Event → (last number : ℕ) → S → Settled → ExplainedTask → Type 0
  IsTask program events last number state settled task =
      IsTaskAt program events (context_after events last number)
      (jobs_at events last number) (numbers_at events last number) number state settled task

  -- the explanations of the cuts of these numbers, which come after the cut `last`: each of them once, in order, from
  -- what the steps before it leave, up to the first that stops
  pub data AreTasks (program : Program S) (events : List Event) :
      ℕ → List ℕ → S → Settled → List ExplainedTask → Type 0 where
    all : (last : ℕ) (state : S) (settled : Settled) → AreTasks program events last [] state settled []
    stopped : (last number : ℕ) (rest : List ℕ) (state : S) (settled : Settled) (task : ExplainedTask)
        → IsTask program events last number state settled task → stops task.ending ≡ true
        → AreTasks program events last (number ∷ rest) state settled (task ∷ [])
    passed : (last number : ℕ) (rest : List ℕ) (state : S) (settled : Settled) (task : ExplainedTask)
        (tasks : List ExplainedTask)
        → IsTask program events last number state settled task → stops task.ending ≡ false
        → AreTasks program events number rest (state_after program state task.steps)
        (settled_after settled task.steps) tasks
        → AreTasks program events last (number ∷ rest) state settled (task ∷ tasks)

  -- the explanations of a history's tasks, or none if the workflow type is not registered
  abbrev pub AreTasksIf : Bool → Program S → List Event → List ExplainedTask → Type 0
  AreTasksIf true program events tasks =
      AreTasks program events 0 (cuts events) (program.initial (workflow_of events)) [] tasks
  AreTasksIf false program events tasks = tasks ≡ []

  -- the explanations of a history's tasks, or none if its events are not in place or its type is not registered
  abbrev pub AreTasksPlaced : Result (List Event) Fault → Program S → List ExplainedTask → Type 0
  AreTasksPlaced (Err fault) program tasks = tasks ≡ []
  AreTasksPlaced (Ok events) program tasks = AreTasksIf (program.knows (workflow_of events)) program events tasks

  -- the explanation of a history: its tasks, or none if an event is not in place or its workflow type is not registered
  abbrev pub AreTasksOf : Program S → List Event → List ExplainedTask → Type 0
  AreTasksOf program events tasks = AreTasksPlaced (in_place (history_fault events) events) program tasks

  -- the explanation of a file: the tasks of its history, or none if it can't be read
  abbrev pub AreTasksIn : Program S → Result (List Event) ReadFault → List ExplainedTask → Type 0
  AreTasksIn program (Ok events) tasks = AreTasksOf program events tasks
  AreTasksIn program (Err fault) tasks = tasks ≡ []
