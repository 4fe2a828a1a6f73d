-- What only contracts of private functions cite, for Advances.
use Rattle.std.specs.Prelude.{◌≡◌, true, List, Result, Ok, Err}
use Rattle.wh_events.specs.declared.event.Event.{Event}
use Rattle.wh_workflow.specs.Law.{Program}
use Rattle.wh_replay.specs.declared.fault.RunFault.{RunFault}
use Rattle.wh_replay.specs.declared.fault.RunFault.TheVariants.{Fault as Faulty, OutOfMemory}
use Rattle.wh_replay.specs.declared.run.AdvanceFault.{AdvanceFault}
use Rattle.wh_replay.specs.declared.run.AdvanceFault.TheVariants.{Fault as AdvanceFaulty, OutOfMemory as NoMemory}
use Rattle.wh_replay.specs.Replays.{ends_in_task}
use Rattle.wh_replay.specs.Runs.{HistoryView, IsReplayed, run_of}

module _ {S : Type 0} where
  -- a history of these events with what their replay gives, or the fault; out of memory only if they end in a started
  -- task
  abbrev pub GivesHistory : Program S → List Event → Result HistoryView RunFault → Type 0
  GivesHistory program events (Ok history) = (history.events ≡ events) × IsReplayed program history
  GivesHistory program events (Err (Faulty fault)) = run_of program events ≡ Err fault
  GivesHistory program events (Err OutOfMemory) = ends_in_task events ≡ true

  -- the fault of a replay after which the run is dropped
  abbrev pub spent : {W : Type 0} → RunFault → AdvanceFault W S
  spent (Faulty fault) = AdvanceFaulty fault
  spent OutOfMemory = NoMemory
