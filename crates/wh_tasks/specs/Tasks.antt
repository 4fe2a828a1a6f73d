-- The result of replaying a task, and the events that it is replayed from.
use Rattle.std.specs.Prelude.{◌≡◌, ℕ, ◌++◌, ◌<◌, ◌≤◌, Bool, true, false, List, [], ◌∷◌, length, Option, Some, None, is_some, Result, Ok, Err, if◌then◌else◌}
use Rattle.wh_events.specs.declared.event.Event.{Event}
use Rattle.wh_replay.specs.declared.fault.Fault.{Fault}
use Rattle.wh_replay.specs.declared.fault.Fault.TheVariants.{NotATask}
use Rattle.wh_events.specs.declared.key.RunKey.{RunKey}
use Rattle.wh_replay.specs.declared.run.Answer.{Answer}
use Rattle.wh_replay.specs.declared.run.Answer.TheVariants.{Complete, Fail}
use Rattle.wh_replay.specs.Replays.{ends_in_task}
use Rattle.wh_tasks.specs.Numbers.{last_number}
use Rattle.wh_tasks.specs.Source.{MayFetch}
use Rattle.wh_workflow.specs.Law.{Program}
use Rattle.wh_workflow.specs.Counting.{risen}
use Rattle.wh_replay.specs.Runs.{Held, follows, run_of, steps, advance_steps}
use Rattle.wh_replay.specs.Advances.{answered, Holds}
use Rattle.wh_tasks.specs.declared.source.SourceFault.TheVariants.{Source as Failed, OutOfMemory as Unfed}
use Rattle.wh_tasks.specs.declared.task.StepFault.{StepFault}
use Rattle.wh_tasks.specs.declared.task.StepFault.TheVariants.{Source, OutOfMemory}

-- the events that a task is replayed from: its own, none, those of the run followed by its own, or those fetched from
-- the source
pub data Basis : Type 0 where
  Own : Basis
  Nothing : Basis
  Joined : List Event → Basis
  Told : Basis

-- the basis if the events do not begin with the first of the history, by the run
abbrev pub later_basis : Option Held → List Event → Basis
later_basis None [] = Nothing
later_basis None (event ∷ rest) = Told
later_basis (Some run) events =
    if ends_in_task events then (if follows (length run.events) events then Joined run.events else Told) else Nothing

-- the first basis that applies
abbrev pub basis_of : Option Held → List Event → Basis
basis_of run events = if follows 0 events then Own else later_basis run events

-- replay needs memory: always for `Joined` and `Told`, for `Own` only if the events end in a started task, and never
-- for `Nothing`
abbrev pub NeedsMemory : Basis → List Event → Type 0
NeedsMemory Own events = ends_in_task events ≡ true
NeedsMemory Nothing events = ⊥
NeedsMemory (Joined held) events = Unit {0}
NeedsMemory Told events = Unit {0}

-- replay fetches a history from the source: only for `Told`
abbrev pub AsksSource : Basis → Type 0
AsksSource Own = ⊥
AsksSource Nothing = ⊥
AsksSource (Joined held) = ⊥
AsksSource Told = Unit {0}

-- the answer to a list of events: the fault of its replay, else the commands that it leaves unsent
abbrev pub answer_to : {S : Type 0} → Program S → List Event → Answer
answer_to program events = answered (run_of program events)

module _ {S : Type 0} (program : Program S) where
  -- without a fault, a run of the key holds the events with what their replay gives, and the meter rises by the steps;
  -- a fault is the answer to the events
  abbrev pub Replays : RunKey → List Event → ℕ → Option Held → Option Fault → ℕ → ℕ → Type 0
  Replays key events steps (Some run) None before after =
      Holds program key events run × (after ≡ risen before steps)
  Replays key events steps None (Some fault) before after = answer_to program events ≡ Fail fault
  Replays key events steps (Some run) (Some fault) before after = ⊥
  Replays key events steps None None before after = ⊥

  -- replay of a fetched history from its first event
  abbrev pub ReplaysFetched : MayFetch → RunKey → ℕ → Option Held → Option Fault → ℕ → ℕ → Type 0
  ReplaysFetched fetches key up_to run fault before after =
      (history : List Event)
      × fetches key up_to history
      × Replays key history (steps program history) run fault before after

  -- the run and the fault that replay of a task gives, whether its run was a hit, and the meter before and after
  abbrev pub StepsFrom : Basis → MayFetch → Option Held → RunKey → List Event
      → Option Held → Option Fault → Bool → ℕ → ℕ → Type 0
  StepsFrom Own fetches run key events stepped fault hit before after =
      Replays key events (steps program events) stepped fault before after × (hit ≡ false)
  StepsFrom Nothing fetches run key events stepped fault hit before after =
      (stepped ≡ run) × (fault ≡ Some NotATask) × (hit ≡ is_some run)
  StepsFrom (Joined held) fetches run key events stepped fault hit before after =
      Replays key (held ++ events) (advance_steps program held events) stepped fault before after × (hit ≡ true)
  StepsFrom Told fetches run key events stepped fault hit before after =
      ReplaysFetched fetches key (last_number events) stepped fault before after × (hit ≡ false)

  -- the same, from the first basis that applies
  abbrev pub Steps : MayFetch → Option Held → RunKey → List Event
      → Option Held → Option Fault → Bool → ℕ → ℕ → Type 0
  Steps fetches run key events stepped fault hit before after =
      StepsFrom (basis_of run events) fetches run key events stepped fault hit before after

-- the answer that is sent: `Fail` of the fault, else the unsent commands of the run
abbrev pub IsAnswer : Option Held → Option Fault → Answer → Type 0
IsAnswer stepped (Some fault) answer = answer ≡ Fail fault
IsAnswer (Some run) None answer = answer ≡ Complete run.unsent
IsAnswer None None answer = ⊥

-- there is a run or a fault
abbrev pub HasAnswer : Option Held → Option Fault → Type 0
HasAnswer stepped (Some fault) = Unit {0}
HasAnswer (Some run) None = Unit {0}
HasAnswer None None = ⊥

-- the source's count of failures never falls, and it rises if the source failed
abbrev pub FailsOnlySource : {A : Type 0} → Result A StepFault → ℕ → ℕ → Type 0
FailsOnlySource (Ok x) old new = old ≤ new
FailsOnlySource (Err (Source Failed)) old new = old < new
FailsOnlySource (Err (Source Unfed)) old new = old ≤ new
FailsOnlySource (Err OutOfMemory) old new = old ≤ new
