-- What only contracts of private functions cite, for Views.
use Rattle.std.specs.Prelude.{List, Result}
use Rattle.wh_events.specs.declared.event.Event.{Event}
use Rattle.wh_events.specs.Machines.{machines_of}
use Rattle.wh_workflow.specs.declared.command.Command.{Command}
use Rattle.wh_workflow.specs.Scripts.{Settled}
use Rattle.wh_workflow.specs.Activations.{activate}
use Rattle.wh_workflow.specs.Law.{Program}
use Rattle.wh_activation.specs.Cutting.{jobs_at}
use Rattle.wh_replay.specs.declared.state.ReplayState.{ReplayState}
use Rattle.wh_replay.specs.declared.fault.Fault.{Fault}
use Rattle.wh_replay.specs.Replays.{ReplayResult, begin_at, task_after}
use Rattle.wh_replay.specs.Runs.{HistoryView}
use Rattle.wh_replay.specs.Private.Runs.{IsRun}
use Rattle.wh_replay.specs.declared.cut.Cut.{Cut}
use Rattle.wh_replay.specs.Views.{context_of}

-- what contracts see of these events and of what their tasks leave
abbrev pub view_of : List Event → Settled → List Command → HistoryView
view_of events settled unsent =
    record { events = events; machines = machines_of events; settled = settled; unsent = unsent }

-- the history ends in a started task, and this is what its tasks leave
abbrev pub IsRunOf : {S : Type 0} → Program S → List Event → ReplayState S → Type 0
IsRunOf program events replayed = IsRun program events replayed.state replayed.versions replayed.unsent.items

-- the task at a cut, after what the tasks before it left
abbrev pub task_of : {S : Type 0} → Program S → Cut → ReplayResult S → Result (ReplayResult S) Fault
task_of program cut current =
    let context = context_of cut in
    task_after cut.track.now context cut.number
    (activate program context (jobs_at cut.track.now cut.previous cut.number) (begin_at current))
