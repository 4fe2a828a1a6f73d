-- What replay of a history finds.
use Rattle.std.specs.Prelude.{◌≡◌, ℕ, Bool, true, false, List, [], ◌∷◌, length, Result, Ok, Err, if◌then◌else◌}
use Rattle.wh_events.specs.declared.event.Event.{Event}
use Rattle.wh_events.specs.Cuts.{is_cut, is_recorded, cuts}
use Rattle.wh_workflow.specs.declared.command.Command.{Command}
use Rattle.wh_workflow.specs.Law.{Program}
use Rattle.wh_workflow.specs.Scripts.{Settled}
use Rattle.wh_workflow.specs.Activations.{and_then}
use Rattle.wh_replay.specs.declared.fault.Fault.{Fault}
use Rattle.wh_replay.specs.declared.fault.RunFault.{RunFault}
use Rattle.wh_replay.specs.declared.fault.RunFault.TheVariants.{Fault as Faulty, OutOfMemory}
use Rattle.wh_replay.specs.declared.fault.ReplayedTasks.{ReplayedTasks}
use Rattle.wh_replay.specs.Replays.{ReplayResult, replay}

-- the call answers what is defined, seen by what it answers and leaves, unless memory ran out
abbrev pub Answers : {A B : Type 0} → Result A RunFault → Result B Fault → (A → B) → Type 0
Answers (Ok answer) defined seen = defined ≡ Ok (seen answer)
Answers (Err (Faulty fault)) defined seen = defined ≡ Err fault
Answers (Err OutOfMemory) defined seen = Unit {0}

-- what the tasks leave, made of these values
abbrev pub replay_result : {S : Type 0} → S → Settled → List Command → ℕ → ReplayResult S
replay_result state settled unsent meter = record { state = state; settled = settled; unsent = unsent; meter = meter }

-- the last cut is live: only inert events follow it
abbrev pub ends_live : List Event → Bool
ends_live [] = false
ends_live (event ∷ rest) =
    if is_cut event rest then (if is_recorded rest then ends_live rest else true) else ends_live rest

-- the number of cuts and whether the last is live, or the fault
abbrev pub replayed_tasks : {S : Type 0} → Program S → List Event → Result ReplayedTasks Fault
replayed_tasks program events =
    and_then (replay program events 0) (λ _. Ok (record { tasks = length (cuts events); live = ends_live events }))

-- the state in which replay of a history leaves the workflow, or the fault
abbrev pub state_after : {S : Type 0} → Program S → List Event → Result S Fault
state_after program events = and_then (replay program events 0) (λ replayed. Ok replayed.state)
