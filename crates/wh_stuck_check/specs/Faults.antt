-- Which command of a run is at fault first, and why.
use Rattle.std.specs.Prelude.{ℕ, ◌+◌, Bool, true, false, not, ◌&&◌, cond, List, [], ◌∷◌, Option, Some, None}
use Rattle.wh_events.specs.declared.place.Thing.{Thing}
use Rattle.wh_workflow.specs.declared.fault.WorkflowFault.{WorkflowFault}
use Rattle.wh_workflow.specs.declared.fault.WorkflowFault.TheVariants.{IdInUse, IdReused, NotOpen, AlreadyCancelling}
use Rattle.wh_workflow.specs.declared.command.Command.{Command}
use Rattle.wh_workflow.specs.Scripts.{is_timer, Act, act_of}
use Rattle.wh_workflow.specs.Scripts.Act.{Opening, Cancelling}
use Rattle.wh_possible_runs.specs.declared.thing.Phase.TheVariants.{Absent}
use Rattle.wh_possible_runs.specs.declared.thing.Touch.{Touch}
use Rattle.wh_possible_runs.specs.declared.thing.Touch.TheVariants.{Untouched, Withdrawn, Canceled}
use Rattle.wh_possible_runs.specs.declared.thing.ThingState.{ThingState}
use Rattle.wh_possible_runs.specs.Things.{is_free, may_cancel, is_running}
use Rattle.wh_possible_runs.specs.Situations.{ThingName, Situation, is_named, after_act}
use Rattle.wh_stuck_check.specs.declared.fault.StuckCommand.{StuckCommand}

-- the state of the thing with this name; one that has none of the names is not open
abbrev pub state_of : List ThingName → Thing → List ℕ → List ThingState → ThingState
state_of (name ∷ names) thing id (one ∷ rest) =
    elim (is_named thing id name) [ true ↦ one | false ↦ state_of names thing id rest ]
state_of _ thing id _ = record { phase = Absent; touch = Untouched; started = false }

-- commands of the task have not opened it
abbrev pub is_from_before : Touch → Bool
is_from_before Untouched = true
is_from_before Canceled = true
is_from_before _ = false

-- it was open before the task, and the commands of the task did not open it again: so the command is not at fault any
-- more once the thing has ended
abbrev pub stays_open : ThingState → Bool
stays_open now = is_from_before now.touch && is_running now.phase

-- why a thing that is not free can't be opened
abbrev pub fault_to_open : Touch → WorkflowFault
fault_to_open Withdrawn = IdReused
fault_to_open _ = IdInUse

-- why the command at a place can't open the thing
abbrev pub open_fault : ℕ → Thing → ThingState → Option StuckCommand
open_fault place thing now =
    elim (is_free thing now.phase now.touch) [
      | true ↦ None
      | false ↦ Some (record { place = place; fault = fault_to_open now.touch; heals = stays_open now })
    ]

-- why the command at a place can't cancel it: a timer that is canceled is not open any more
abbrev pub cancel_fault : ℕ → Thing → ThingState → Option StuckCommand
cancel_fault place thing now =
    elim (may_cancel now.phase now.touch) [
      | true ↦ None
      | false ↦ Some (record {
        place = place;
        fault = cond (stays_open now && not (is_timer thing)) AlreadyCancelling NotOpen;
        heals = stays_open now;
      })
    ]

-- why the command at a place can't do this
abbrev pub act_fault : ℕ → List ThingName → Act → List ThingState → Option StuckCommand
act_fault place names (Opening thing id) things = open_fault place thing (state_of names thing id things)
act_fault place names (Cancelling thing id) things = cancel_fault place thing (state_of names thing id things)
act_fault place names _ things = None

-- the first of these commands that is at fault, where the first has this place
abbrev pub fault_from : ℕ → List ThingName → List Command → Situation → Option StuckCommand
fault_from place names [] now = None
fault_from place names (command ∷ rest) now =
    elim (act_fault place names (act_of command) now.things) [
      | Some fault ↦ Some fault
      | None ↦ fault_from (place + 1) names rest (after_act names (act_of command) now)
    ]
