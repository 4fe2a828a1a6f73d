-- What only contracts of private functions cite, for Runs.
use Rattle.std.specs.Prelude.{◌≡◌, ℕ, ◌+◌, true, List, ◌++◌, Result, Ok, Err, if◌then◌else◌}
use Rattle.wh_events.specs.declared.event.Event.{Event}
use Rattle.wh_events.specs.Places.{history_fault}
use Rattle.wh_workflow.specs.declared.command.Command.{Command}
use Rattle.wh_workflow.specs.Law.{Program}
use Rattle.wh_workflow.specs.Scripts.{Settled}
use Rattle.wh_workflow.specs.Activations.{and_then}
use Rattle.wh_replay.specs.declared.fault.Fault.{Fault}
use Rattle.wh_replay.specs.Replays.{ReplayResult, replay_tasks, replay_placed, ends_in_task}
use Rattle.wh_replay.specs.Runs.{going_on, confirms}

module _ {S : Type 0} where
  -- the tasks leave this state, these versions and these unsent commands
  abbrev pub Gives : Result (ReplayResult S) Fault → S → Settled → List Command → Type 0
  Gives (Ok left) state settled unsent = (left.state ≡ state) × (left.settled ≡ settled) × (left.unsent ≡ unsent)
  Gives (Err fault) state settled unsent = ⊥

  -- the history ends in a started task, and this is what its tasks leave
  pub record IsRun (program : Program S) (events : List Event) (state : S) (settled : Settled)
      (unsent : List Command) : Type 0 where
    pub ends : ends_in_task events ≡ true
    pub gives : Gives (replay_tasks program events 0) state settled unsent

  -- what advancing gives, with this meter
  abbrev pub advanced : Program S → List Event → List Event → ℕ → Result (ReplayResult S) Fault
  advanced program held new meter =
      if confirms program held new
      then replay_placed (history_fault (held ++ new))
      (and_then (replay_tasks program held 0) (going_on program held new meter))
      else replay_tasks program (held ++ new) meter
