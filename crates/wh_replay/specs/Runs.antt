-- A run: a history that ends in a started task, with what its replay gives. How a run begins, and how new events
-- advance it.
use Rattle.std.specs.Prelude.{◌≡◌, ℕ, ◌+◌, ◌≤◌, Bool, false, ◌&&◌, List, [], ◌∷◌, ◌++◌, length, Option, Some, None, Result, Ok, Err, IsOkAnd, if◌then◌else◌, eqb, is_none}
use Rattle.wh_events.specs.declared.event.Event.{Event}
use Rattle.wh_events.specs.declared.key.RunKey.{RunKey}
use Rattle.wh_events.specs.declared.place.Status.{Status}
use Rattle.wh_events.specs.Machines.{Machine}
use Rattle.wh_events.specs.Cuts.{is_recorded, record_of}
use Rattle.wh_events.specs.Places.{most_events}
use Rattle.wh_workflow.specs.declared.command.Command.{Command}
use Rattle.wh_workflow.specs.Law.{Program}
use Rattle.wh_workflow.specs.Names.{mismatch}
use Rattle.wh_workflow.specs.Scripts.{Settled}
use Rattle.wh_workflow.specs.Activations.{and_then}
use Rattle.wh_replay.specs.declared.fault.Fault.{Fault}
use Rattle.wh_replay.specs.declared.fault.Fault.TheVariants.{NotATask}
use Rattle.wh_replay.specs.Replays.{ReplayResult, Replayed, replay, replay_tasks, replay_after, ends_in_task}

-- what contracts see of a replayed history: its events, and what their replay gives except the state, whose type
-- depends on the workflow
pub record HistoryView : Type 0 where
  pub events : List Event
  pub machines : List Machine
  pub settled : Settled
  pub unsent : List Command

-- what contracts see of a run: its key, and what they see of its history
pub record Held : Type 0 where
  pub key : RunKey
  pub events : List Event
  pub machines : List Machine
  pub settled : Settled
  pub unsent : List Command

-- the history of a run
abbrev pub history_of : Held → HistoryView
history_of run = record { events = run.events; machines = run.machines; settled = run.settled; unsent = run.unsent }

-- the run of a key with this history
abbrev pub run_under : RunKey → HistoryView → Held
run_under key history =
    record {
      key = key;
      events = history.events;
      machines = history.machines;
      settled = history.settled;
      unsent = history.unsent;
    }

-- the status of the machine of a number, if there is one
abbrev pub status_in : List Machine → ℕ → Option Status
status_in [] number = None
status_in (machine ∷ rest) number = if eqb machine.number number then Some machine.status else status_in rest number

-- the first of the new events has the number that follows that many held ones
abbrev pub follows : ℕ → List Event → Bool
follows held [] = false
follows held (event ∷ _) = eqb event.number (held + 1)

module _ {S : Type 0} where
  -- replay of a history that must end in a started task
  abbrev pub run_of : Program S → List Event → Result (Replayed S) Fault
  run_of program events = if ends_in_task events then replay program events 0 else Err NotATask

  -- the history shows the machines, versions and unsent commands that replay gives
  pub record Shows (history : HistoryView) (replayed : Replayed S) : Type 0 where
    pub machines : history.machines ≡ replayed.machines
    pub settled : history.settled ≡ replayed.settled
    pub unsent : history.unsent ≡ replayed.unsent

  -- the history ends in a started task, replay of its events from the first one has no fault and gives what it shows,
  -- and it has at most the most events that a run may have
  pub record IsReplayed (program : Program S) (history : HistoryView) : Type 0 where
    pub replays : IsOkAnd (run_of program history.events) (Shows history)
    pub most : length history.events ≤ most_events

  -- the steps that the tasks counted, from 0 on
  abbrev pub counted : Result (ReplayResult S) Fault → ℕ
  counted (Ok left) = left.meter
  counted (Err _) = 0

  -- the steps of all cuts of a history, but at most 2^64 - 1
  abbrev pub steps : Program S → List Event → ℕ
  steps program events = counted (replay_tasks program events 0)

  -- what the new events make of what the held ones left, with this meter; the commands that were unsent are sent
  abbrev pub going_on : Program S → List Event → List Event → ℕ → ReplayResult S → Result (ReplayResult S) Fault
  going_on program held new meter kept = replay_after program held [] new (record kept { unsent = []; meter = meter })

  -- the steps of the cuts after the held events alone, but at most 2^64 - 1
  abbrev pub new_steps : Program S → List Event → List Event → ℕ
  new_steps program held new = counted (and_then (replay_tasks program held 0) (going_on program held new 0))

  -- the commands that were left unsent match the record that the new events begin with
  abbrev pub is_matched : List Event → List Event → Result (ReplayResult S) Fault → Bool
  is_matched held new (Ok left) = is_none (mismatch (held ++ new) left.unsent (record_of new))
  is_matched held new (Err _) = false

  -- the new events confirm the held ones: they complete the last task, and what it left unsent matches its record
  abbrev pub confirms : Program S → List Event → List Event → Bool
  confirms program held new = is_recorded new && is_matched held new (replay_tasks program held 0)

  -- how far advancing raises the meter
  abbrev pub advance_steps : Program S → List Event → List Event → ℕ
  advance_steps program held new =
      if confirms program held new then new_steps program held new else steps program (held ++ new)
