-- The workflow type of a history, if it is not registered.
use Rattle.std.specs.Prelude.{ℕ, Bool, true, false, List, Option, Some, None, Result, Ok, Err, if◌then◌else◌}
use Rattle.wh_events.specs.declared.event.Event.{Event}
use Rattle.wh_events.specs.Places.{history_fault}
use Rattle.wh_json.specs.declared.fault.ReadFault.{ReadFault}
use Rattle.wh_workflow.specs.Law.{Program}
use Rattle.wh_replay.specs.declared.fault.Fault.{Fault}
use Rattle.wh_replay.specs.Replays.{workflow_of}
use Rattle.wh_replay.specs.Tracking.{in_place}
use Rattle.wh_tester.specs.declared.line.Verdict.{Verdict}
use Rattle.wh_tester.specs.declared.line.Verdict.TheVariants as verdicts

module _ {S : Type 0} where
  -- the workflow type of events in place, if it is not registered
  abbrev pub unknown_placed : Program S → Result (List Event) Fault → Option (List ℕ)
  unknown_placed program (Err fault) = None
  unknown_placed program (Ok events) = if program.knows (workflow_of events) then None else Some (workflow_of events)

  -- the workflow type of a history in place, if it is not registered
  abbrev pub unknown_of : Program S → List Event → Option (List ℕ)
  unknown_of program events = unknown_placed program (in_place (history_fault events) events)

  -- the workflow type of the history of a file, if it can be read and is in place, and the type is not registered
  abbrev pub unknown_in : Program S → Result (List Event) ReadFault → Option (List ℕ)
  unknown_in program (Ok events) = unknown_of program events
  unknown_in program (Err fault) = None

-- the workflow type that there is no code for, if that is the verdict
abbrev pub unregistered_type : Verdict → Option (List ℕ)
unregistered_type (verdicts.NoCode kind) = Some kind
unregistered_type (verdicts.Good found) = None
unregistered_type (verdicts.Unreadable fault) = None
unregistered_type (verdicts.Faulty fault) = None
unregistered_type verdicts.OutOfMemory = None

-- the verdict is that there is no code for the workflow type
abbrev pub is_no_code : Verdict → Bool
is_no_code (verdicts.NoCode kind) = true
is_no_code (verdicts.Good found) = false
is_no_code (verdicts.Unreadable fault) = false
is_no_code (verdicts.Faulty fault) = false
is_no_code verdicts.OutOfMemory = false
