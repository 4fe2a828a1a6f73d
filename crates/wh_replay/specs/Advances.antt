-- What the calls that make or advance a run answer.
use Rattle.std.specs.Prelude.{◌≡◌, ℕ, true, false, List, length, ◌++◌, Result, Ok, Err}
use Rattle.wh_events.specs.declared.event.Event.{Event}
use Rattle.wh_events.specs.declared.key.RunKey.{RunKey}
use Rattle.wh_workflow.specs.Counting.{risen}
use Rattle.wh_workflow.specs.Law.{Program}
use Rattle.wh_replay.specs.declared.fault.Fault.{Fault}
use Rattle.wh_replay.specs.declared.fault.RunFault.{RunFault}
use Rattle.wh_replay.specs.declared.fault.RunFault.TheVariants.{Fault as Faulty, OutOfMemory}
use Rattle.wh_replay.specs.declared.run.AdvanceFault.{AdvanceFault}
use Rattle.wh_replay.specs.declared.run.AdvanceFault.TheVariants.{NotATask as NoTaskEnds, Gap, Fault as AdvanceFaulty, OutOfMemory as NoMemory}
use Rattle.wh_replay.specs.declared.run.Answer.{Answer}
use Rattle.wh_replay.specs.declared.run.Answer.TheVariants.{Complete, Fail}
use Rattle.wh_replay.specs.Replays.{Replayed, ends_in_task}
use Rattle.wh_replay.specs.Runs.{Held, history_of, IsReplayed, follows, run_of, advance_steps}

-- the new events are joined to the held ones: they end in a started task, and their first number follows the held
-- events
pub record IsJoined (held new : List Event) : Type 0 where
  pub ends : ends_in_task new ≡ true
  pub begins : follows (length held) new ≡ true

module _ {S : Type 0} where
  -- the run has the key, holds the events, and shows what their replay gives
  abbrev pub Holds : Program S → RunKey → List Event → Held → Type 0
  Holds program key events run = (run.key ≡ key) × (run.events ≡ events) × IsReplayed program (history_of run)

  -- a run of the key that holds the events, or the fault of their replay; out of memory only if they end in a started
  -- task
  abbrev pub Begins : Program S → RunKey → List Event → Result Held RunFault → Type 0
  Begins program key events (Ok run) = Holds program key events run
  Begins program key events (Err (Faulty fault)) = run_of program events ≡ Err fault
  Begins program key events (Err OutOfMemory) = ends_in_task events ≡ true

  -- the run that was passed, unchanged, if the new events don't join it; else what `Begins` says of the joined history
  abbrev pub Advances : {W : Type 0} → Program S → Held → List Event → Result Held (AdvanceFault W S) → Type 0
  Advances program run new (Ok next) = IsJoined run.events new × Begins program run.key (run.events ++ new) (Ok next)
  Advances program run new (Err (NoTaskEnds back)) = (ends_in_task new ≡ false) × (back ≡ run)
  Advances program run new (Err (Gap back)) =
      (ends_in_task new ≡ true) × (follows (length run.events) new ≡ false) × (back ≡ run)
  Advances program run new (Err (AdvanceFaulty fault)) =
      IsJoined run.events new × Begins program run.key (run.events ++ new) (Err (Faulty fault))
  Advances program run new (Err NoMemory) =
      IsJoined run.events new × Begins program run.key (run.events ++ new) (Err OutOfMemory)

  -- the meter rises by the steps of the new cuts alone if the new events confirm the held ones, else by those of all
  -- cuts; it stays as it is if the run is returned unchanged
  abbrev pub Counts : {W : Type 0} → Program S → Held → List Event → ℕ → ℕ → Result Held (AdvanceFault W S) → Type 0
  Counts program run new before after (Ok next) = after ≡ risen before (advance_steps program run.events new)
  Counts program run new before after (Err (NoTaskEnds back)) = after ≡ before
  Counts program run new before after (Err (Gap back)) = after ≡ before
  Counts program run new before after (Err _) = Unit {0}

  -- the answer to a task, by the replay of its history
  abbrev pub answered : Result (Replayed S) Fault → Answer
  answered (Ok replayed) = Complete replayed.unsent
  answered (Err fault) = Fail fault
