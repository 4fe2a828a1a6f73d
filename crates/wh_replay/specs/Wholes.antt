-- Replay of a history as a whole: the tasks of its cuts pass, each after the one before it, or one of them is the first
-- that fails.
use Rattle.std.specs.Prelude.{◌≡◌, ℕ, ◌↔◌, ◌⊎◌, List, [], ◌∷◌, ◌++◌, map, Option, Some, None, Result, Ok, Err, IsTrue}
use Rattle.wh_events.specs.declared.event.Event.{Event}
use Rattle.wh_events.specs.declared.place.PlaceFault.{PlaceFault}
use Rattle.wh_events.specs.Machines.{machines_of}
use Rattle.wh_events.specs.Cuts.{is_cut, is_recorded, record_of, cuts}
use Rattle.wh_events.specs.Places.{history_fault}
use Rattle.wh_events.specs.Tasks.{IsLiveCut}
use Rattle.wh_split.specs.Splits.{is_live}
use Rattle.wh_workflow.specs.declared.command.Command.{Command}
use Rattle.wh_workflow.specs.declared.fault.WorkflowFault.{WorkflowFault}
use Rattle.wh_workflow.specs.declared.fault.WorkflowFault.TheVariants.{UnknownWorkflow}
use Rattle.wh_workflow.specs.declared.fault.Mismatch.{Mismatch}
use Rattle.wh_workflow.specs.Law.{Program}
use Rattle.wh_workflow.specs.Jobs.{jobs_of}
use Rattle.wh_workflow.specs.Names.{mismatch}
use Rattle.wh_workflow.specs.Scripts.{ActivationContext, reduced}
use Rattle.wh_workflow.specs.Activations.{Progress, activate}
use Rattle.wh_replay.specs.declared.fault.Fault.{Fault}
use Rattle.wh_replay.specs.declared.fault.Fault.TheVariants.{Place as PlaceFaulty, Workflow as WorkflowFaulty, Mismatch as Mismatched}
use Rattle.wh_replay.specs.Replays.{ReplayResult, Replayed, context_at, begin_at, reached, start, workflow_of, with_machines, replay}
use Rattle.wh_replay.specs.Outcomes.{ends_live}

-- none of the events is a cut of a history that continues after them with the rest
abbrev pub HasNoCut : List Event → List Event → Type 0
HasNoCut events rest =
    (before : List Event) (event : Event) (after : List Event) → events ≡ before ++ event ∷ after
    → ¬ IsTrue (is_cut event (after ++ rest))

-- the cut is the next one: it is a cut of a history that continues with the rest, and no event between is one
pub record IsNextCut (between : List Event) (cut : Event) (rest : List Event) : Type 0 where
  pub cuts_here : IsTrue (is_cut cut rest)
  pub none_between : HasNoCut between (cut ∷ rest)

-- where the task of a cut stands in a history: all events before the cut, those of them after the cut before it, the
-- cut, and all events after it
pub record TaskAt : Type 0 where
  pub before : List Event
  pub between : List Event
  pub cut : Event
  pub rest : List Event

-- the task of the next cut after the events seen, the last of which is a cut
abbrev pub next_task : List Event → List Event → Event → List Event → TaskAt
next_task seen between cut rest = record { before = seen ++ between; between = between; cut = cut; rest = rest }

-- what the activation of a task knows
abbrev pub known_at : TaskAt → ActivationContext
known_at here = context_at here.before here.between here.cut here.rest

module _ {S : Type 0} (program : Program S) (here : TaskAt) (current : ReplayResult S) where
  -- what the activation of a task gives, after what the tasks before it left
  abbrev pub activated : Result (Progress S) WorkflowFault
  activated =
      let jobs = jobs_of (here.before ++ here.cut ∷ []) here.between here.cut in
      activate program (known_at here) jobs (begin_at current)

  -- the commands that the activation sends
  abbrev pub sent : Progress S → List Command
  sent progress = reduced (known_at here) progress.script.issued

  -- the first difference of these from the record of the cut
  abbrev pub difference_from : Progress S → Option Mismatch
  difference_from progress = mismatch (here.before ++ here.cut ∷ here.rest) (sent progress) (record_of here.rest)

  -- the task passes: its activation has no fault; if the cut is recorded, what it sends matches the record, and nothing
  -- is unsent; if the cut is live, what it sends is unsent
  pub record TaskPasses (left : ReplayResult S) : Type 0 where
    pub progress : Progress S
    pub succeeds : activated ≡ Ok progress
    pub recorded : IsTrue (is_recorded here.rest)
        → (difference_from progress ≡ None) × (left ≡ reached progress [])
    pub live : ¬ IsTrue (is_recorded here.rest) → left ≡ reached progress (sent progress)

  -- the activation has a workflow fault: that is the fault, at the number of the cut
  abbrev pub ActivationFails : Fault → Type 0
  ActivationFails fault =
      (reason : WorkflowFault) × (activated ≡ Err reason) × (fault ≡ WorkflowFaulty here.cut.number reason)

  -- the cut is recorded, and what is sent differs from the record: the first difference is the
  -- fault, at the number of the cut
  abbrev pub RecordDiffers : Fault → Type 0
  RecordDiffers fault =
      (progress : Progress S) × (difference : Mismatch) × (activated ≡ Ok progress)
      × IsTrue (is_recorded here.rest) × (difference_from progress ≡ Some difference)
      × (fault ≡ Mismatched here.cut.number difference)

  -- the task fails
  abbrev pub TaskFails : Fault → Type 0
  TaskFails fault = ActivationFails fault ⊎ RecordDiffers fault

-- a task that passed: the events strictly between the cut before it, or the beginning of the history, and its own cut;
-- that cut; and what the task leaves
pub record PassedTask (S : Type 0) : Type 0 where
  pub between : List Event
  pub cut : Event
  pub left : ReplayResult S

module _ {S : Type 0} where
  -- the events up to and with the cut of the last of these tasks
  abbrev pub events_through : List (PassedTask S) → List Event
  events_through [] = []
  events_through (one ∷ more) = one.between ++ one.cut ∷ events_through more

  -- what the last of the tasks leaves, or what there was at first
  abbrev pub left_by : ReplayResult S → List (PassedTask S) → ReplayResult S
  left_by first [] = first
  left_by first (one ∷ more) = left_by one.left more

  -- the numbers of the tasks' cuts
  abbrev pub cut_numbers : List (PassedTask S) → List ℕ
  cut_numbers passed = map (λ (one : PassedTask S). one.cut.number) passed

module _ {S : Type 0} (program : Program S) where
  -- the cut of the task is the next one after the events seen, and the task passes and leaves what it says, after what
  -- the tasks before it left
  pub record Passes (seen : List Event) (current : ReplayResult S) (one : PassedTask S)
      (rest : List Event) : Type 0 where
    pub next : IsNextCut one.between one.cut rest
    pub passes : TaskPasses program (next_task seen one.between one.cut rest) current one.left

module _ {S : Type 0} (program : Program S) (history : List Event) (first : ReplayResult S) where
  -- the history begins with these tasks, each of which passes after those before it, and continues with the rest
  pub record PassThrough (passed : List (PassedTask S)) (rest : List Event) : Type 0 where
    pub whole : history ≡ events_through passed ++ rest
    pub each : (earlier : List (PassedTask S)) (one : PassedTask S) (later : List (PassedTask S))
        → passed ≡ earlier ++ one ∷ later
        → Passes program (events_through earlier) (left_by first earlier) one (events_through later ++ rest)

  -- the tasks of all cuts pass, and this is what the last one leaves
  pub record AllPass (left : ReplayResult S) : Type 0 where
    pub passed : List (PassedTask S)
    pub rest : List Event
    pub pass : PassThrough passed rest
    pub none_left : HasNoCut rest []
    pub leaves : left ≡ left_by first passed

  -- the tasks of the cuts before a cut pass, and the task of this one fails
  pub record FirstFails (fault : Fault) : Type 0 where
    pub passed : List (PassedTask S)
    pub between : List Event
    pub cut : Event
    pub rest : List Event
    pub pass : PassThrough passed (between ++ cut ∷ rest)
    pub next : IsNextCut between cut rest
    pub fails : TaskFails program (next_task (events_through passed) between cut rest) (left_by first passed) fault

module _ {S : Type 0} (program : Program S) where
  -- the history is in place, and its workflow type is registered
  pub record IsKnown (history : List Event) : Type 0 where
    pub in_place : history_fault history ≡ None
    pub known : IsTrue (program.knows (workflow_of history))

  -- what the tasks of a history begin with
  abbrev pub start_of : List Event → ℕ → ReplayResult S
  start_of history meter = start program (workflow_of history) meter

  -- a place fault comes before all other faults
  abbrev pub PlaceFaultFirst : Type 0
  PlaceFaultFirst =
      (history : List Event) (meter place : ℕ) (fault : PlaceFault) → history_fault history ≡ Some (place, fault)
      → replay program history meter ≡ Err (PlaceFaulty place fault)

  -- a history in place whose workflow type is not registered has that fault, at event 1
  abbrev pub UnknownTypeNext : Type 0
  UnknownTypeNext =
      (history : List Event) (meter : ℕ) → history_fault history ≡ None
      → ¬ IsTrue (program.knows (workflow_of history))
      → replay program history meter ≡ Err (WorkflowFaulty 1 UnknownWorkflow)

  -- otherwise replay gives a result exactly when the tasks of all cuts pass: the machines, and what the last task
  -- leaves
  abbrev pub GivesWhereAllPass : Type 0
  GivesWhereAllPass =
      (history : List Event) (meter : ℕ) (replayed : Replayed S) → IsKnown history
      → (replay program history meter ≡ Ok replayed)
      ↔ ((left : ReplayResult S) × AllPass program history (start_of history meter) left
      × (replayed ≡ with_machines (machines_of history) left))

  -- and it has a fault exactly when the task of some cut is the first that fails: the fault of that task
  abbrev pub FaultyWhereFirstFails : Type 0
  FaultyWhereFirstFails =
      (history : List Event) (meter : ℕ) (fault : Fault) → IsKnown history
      → (replay program history meter ≡ Err fault)
      ↔ FirstFails program history (start_of history meter) fault

  -- if the tasks of all cuts pass, their cuts are those of the history, in order
  abbrev pub AllCutsPass : Type 0
  AllCutsPass =
      (history : List Event) (first left : ReplayResult S) (all : AllPass program history first left)
      → cuts history ≡ cut_numbers all.passed

  -- if one task is the first that fails, the cuts of the history are those of the tasks that pass, its own, and the
  -- ones after it
  abbrev pub FirstCutsPass : Type 0
  FirstCutsPass =
      (history : List Event) (first : ReplayResult S) (fault : Fault) (fails : FirstFails program history first fault)
      → cuts history ≡ cut_numbers fails.passed ++ fails.cut.number ∷ cuts fails.rest

-- a place is live exactly when it is a live cut
abbrev pub LivePlaceIsSaid : Type 0
LivePlaceIsSaid = (events : List Event) (place : ℕ) → IsTrue (is_live events place) ↔ IsLiveCut events place

-- a history ends live exactly when it has a live cut
abbrev pub LiveEndIsSaid : Type 0
LiveEndIsSaid = (events : List Event) → IsTrue (ends_live events) ↔ ((place : ℕ) × IsLiveCut events place)
