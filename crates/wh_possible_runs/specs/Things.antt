-- A thing that a run opens under an id, as a state machine: when a command that opens or cancels it is at fault, and
-- what becomes of it. The law `machines_follow_rules` says that these are the rules of `wh_workflow`.
use Rattle.std.specs.Prelude.{Bool, true, false, not, ◌&&◌, ◌||◌, cond, Option, Some, None}
use Rattle.wh_events.specs.declared.place.Thing.{Thing}
use Rattle.wh_workflow.specs.Scripts.{is_timer}
use Rattle.wh_possible_runs.specs.declared.thing.Phase.{Phase}
use Rattle.wh_possible_runs.specs.declared.thing.Phase.TheVariants.{Absent, Open, AskedToCancel, Ended, EndTold}
use Rattle.wh_possible_runs.specs.declared.thing.Touch.{Touch}
use Rattle.wh_possible_runs.specs.declared.thing.Touch.TheVariants.{Untouched, Opened, Withdrawn, Canceled}
use Rattle.wh_possible_runs.specs.declared.thing.ThingState.{ThingState}

-- a command may open it: else `IdInUse`, or `IdReused` if it is withdrawn
abbrev pub is_free : Thing → Phase → Touch → Bool
is_free thing phase Opened = false
is_free thing phase Withdrawn = false
is_free thing Open Untouched = false
is_free thing Open Canceled = is_timer thing
is_free thing AskedToCancel touch = false
is_free thing _ _ = true

-- a command may cancel it: else `NotOpen`, or `AlreadyCancelling` if it is open still
abbrev pub may_cancel : Phase → Touch → Bool
may_cancel phase Opened = true
may_cancel phase Withdrawn = false
may_cancel Open Untouched = true
may_cancel Ended touch = true
may_cancel EndTold touch = true
may_cancel _ _ = false

-- what a cancel has done with it
abbrev pub touch_after_cancel : Phase → Touch → Touch
touch_after_cancel phase Opened = Withdrawn
touch_after_cancel Open Untouched = Canceled
touch_after_cancel phase touch = touch

-- what it is after the task
abbrev pub phase_after_task : Thing → Phase → Touch → Phase
phase_after_task thing phase Opened = Open
phase_after_task thing phase Withdrawn = Absent
phase_after_task thing Open Canceled = cond (is_timer thing) Absent AskedToCancel
phase_after_task thing Ended touch = Absent
phase_after_task thing EndTold touch = Absent
phase_after_task thing phase touch = phase

-- once a command opens it; `None` is a fault
abbrev pub open_thing : Thing → ThingState → Option ThingState
open_thing thing now =
    elim (is_free thing now.phase now.touch) [ true ↦ Some (record now { touch = Opened }) | false ↦ None ]

-- once a command cancels it; `None` is a fault
abbrev pub cancel_thing : ThingState → Option ThingState
cancel_thing now =
    elim (may_cancel now.phase now.touch) [
      | true ↦ Some (record now { touch = touch_after_cancel now.phase now.touch })
      | false ↦ None
    ]

-- the run is still to be told that it has ended
abbrev pub is_untold : Phase → Bool
is_untold Ended = true
is_untold _ = false

-- it is open on the server
abbrev pub is_running : Phase → Bool
is_running Open = true
is_running AskedToCancel = true
is_running _ = false

-- once the run is told that it has ended; `None` if no server tells so
abbrev pub end_thing : ThingState → Option ThingState
end_thing now = elim (is_untold now.phase) [ true ↦ Some (record now { phase = EndTold }) | false ↦ None ]

-- once the run is told that a child has started; `None` if no server tells so
abbrev pub start_child : ThingState → Option ThingState
start_child now =
    elim ((is_running now.phase || is_untold now.phase) && not now.started) [
      | true ↦ Some (record now { started = true })
      | false ↦ None
    ]

-- they opened it
abbrev pub is_opened : Touch → Bool
is_opened Opened = true
is_opened _ = false

-- its state when the next task begins, with this flag if it has ended; `None` if it can't have
abbrev pub next_thing : Bool → Thing → ThingState → Option ThingState
next_thing flag thing now =
    let phase = phase_after_task thing now.phase now.touch in
    let started = is_running phase && (now.started && not (is_opened now.touch)) in
    elim flag [
      | true ↦ elim (is_running phase) [
        | true ↦ Some (record { phase = Ended; touch = Untouched; started = started })
        | false ↦ None
      ]
      | false ↦ Some (record { phase = phase; touch = Untouched; started = started })
    ]
