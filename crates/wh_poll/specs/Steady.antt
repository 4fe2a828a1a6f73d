-- A host that serves tasks of one table of histories, and the answers to the tasks.
use Rattle.std.specs.Prelude.{◌≡◌, ℕ, ◌+◌, ◌<◌, ◌≤◌, ◌++◌, Bool, true, List, [], ◌∷◌, length, take, drop, Option, Some, None, Ok}
use Rattle.wh_events.specs.declared.event.Event.{Event}
use Rattle.wh_events.specs.declared.key.RunKey.{RunKey}
use Rattle.wh_workflow.specs.Law.{Program}
use Rattle.wh_replay.specs.declared.fault.Fault.{Fault}
use Rattle.wh_replay.specs.declared.run.Answer.{Answer}
use Rattle.wh_replay.specs.Replays.{ends_in_task}
use Rattle.wh_replay.specs.Runs.{Held}
use Rattle.wh_slots.specs.declared.TaskName.{TaskName}
use Rattle.wh_host.specs.Cache.{Entry, entry_of}
use Rattle.wh_host.specs.Machine.{Claim, HostView, Call, UseWorkflow, GiveRun, opening, step}
use Rattle.wh_host.specs.Machine.{GiveReply}
use Rattle.wh_tasks.specs.Tasks.{Steps, IsAnswer, answer_to}

-- the histories by their run keys; a run that is not there has no events
abbrev pub Table : Type 0
Table = RunKey → List Event

-- the numbers of the events count up from this one
abbrev pub IsNumbered : ℕ → List Event → Type 0
IsNumbered number [] = Unit {0}
IsNumbered number (event ∷ rest) = (event.number ≡ number) × IsNumbered (number + 1) rest

-- event i of each history has number i
abbrev pub IsTable : Table → Type 0
IsTable table = (key : RunKey) → IsNumbered 1 (table key)

-- the source fetches the history up to the number
abbrev pub told_by : Table → RunKey → ℕ → List Event → Type 0
told_by table key up_to history = history ≡ take up_to (table key)

-- the host, and the runs that were replayed and not given back yet, as the cache would keep them
pub record Steady : Type 0 where
  pub host : HostView
  pub in_hand : List Entry

-- a host that has just opened, beside which there are no runs
abbrev pub beginning : ℕ → ℕ → ℕ → ℕ → Steady
beginning workflow activity capacity bound = record { host = opening workflow activity capacity bound; in_hand = [] }

-- the use of a slot for a task of a run, with the events after one number up to another; with the call's result, the
-- result of replay and the answer
pub record Use : Type 0 where
  pub permit : Claim
  pub name : TaskName
  pub key : RunKey
  pub after : ℕ
  pub up_to : ℕ
  pub held : Claim
  pub cached : Option Held
  pub stepped : Option Held
  pub fault : Option Fault
  pub hit : Bool
  pub answer : Answer

-- a task is served; or a run beside the host is given back (with the runs before it and after it in the list); or
-- another call of the host is made, as an eviction or a finish
pub data Move : Type 0 where
  Uses : Use → Move
  Gives : Claim → List Entry → Held → List Entry → GiveReply → Move
  Happens : Call → Move

-- the events of the task
abbrev pub task_of : Table → Use → List Event
task_of table use_of = drop use_of.after (take use_of.up_to (table use_of.key))

-- the runs beside the host, with the one that replay returned, if it returned one
abbrev pub with_run : Option Held → List Entry → List Entry
with_run None runs = runs
with_run (Some run) runs = entry_of run ∷ runs

-- the use of a slot is accepted, its events end in a started task of the history, and the answer is that of its replay
pub record IsUse {S : Type 0} (program : Program S) (table : Table)
    (old : Steady) (u : Use) (new : Steady) : Type 0 where
  pub accepted : step old.host (UseWorkflow u.permit u.name u.key (Ok (u.held, u.cached))) new.host
  pub some : u.after < u.up_to
  pub within : u.up_to ≤ length (table u.key)
  pub starts : ends_in_task (take u.up_to (table u.key)) ≡ true
  pub before : ℕ
  pub meter : ℕ
  pub replayed : Steps program (told_by table) u.cached u.key (task_of table u) u.stepped u.fault u.hit before meter
  pub answered : IsAnswer u.stepped u.fault u.answer
  pub in_hand : new.in_hand ≡ with_run u.stepped old.in_hand

-- the call gives no run back
abbrev pub BringsNoRun : Call → Type 0
BringsNoRun (GiveRun held run reply) = ⊥
BringsNoRun _ = Unit {0}

-- the move leads from the old state to the new one
abbrev pub move : {S : Type 0} → Program S → Table → Steady → Move → Steady → Type 0
move program table old (Uses u) new = IsUse program table old u new
move program table old (Gives held before run after reply) new =
    (old.in_hand ≡ before ++ entry_of run ∷ after)
    × step old.host (GiveRun held run reply) new.host
    × (new.in_hand ≡ before ++ after)
move program table old (Happens call) new =
    BringsNoRun call × step old.host call new.host × (new.in_hand ≡ old.in_hand)

-- a list of moves leads from one state to another
abbrev pub Moves : {S : Type 0} → Program S → Table → Steady → List Move → Steady → Type 0
Moves program table old [] new = new ≡ old
Moves program table old (m ∷ ms) new = (next : Steady) × move program table old m next × Moves program table next ms new

-- a task is answered by replay of the history up to its last event
abbrev pub IsAnswered : {S : Type 0} → Program S → Table → Move → Type 0
IsAnswered program table (Uses u) = u.answer ≡ answer_to program (take u.up_to (table u.key))
IsAnswered program table (Gives held before run after reply) = Unit {0}
IsAnswered program table (Happens call) = Unit {0}

-- each task of the moves is answered so
abbrev pub AllAnswered : {S : Type 0} → Program S → Table → List Move → Type 0
AllAnswered program table [] = Unit {0}
AllAnswered program table (m ∷ ms) = IsAnswered program table m × AllAnswered program table ms

-- the run holds a beginning of its history
abbrev pub HoldsBeginning : Table → Entry → Type 0
HoldsBeginning table run = (rest : List Event) × (table run.0 ≡ run.1.events ++ rest)

-- each of the runs holds a beginning of its history
abbrev pub AllHoldBeginnings : Table → List Entry → Type 0
AllHoldBeginnings table [] = Unit {0}
AllHoldBeginnings table (run ∷ runs) = HoldsBeginning table run × AllHoldBeginnings table runs

-- each run in the cache or beside the host holds a beginning of its history
abbrev pub IsSteady : Table → Steady → Type 0
IsSteady table s = AllHoldBeginnings table s.host.cache.runs × AllHoldBeginnings table s.in_hand
