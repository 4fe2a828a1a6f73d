-- What only contracts of private functions cite, for Faults.
use Rattle.std.specs.Prelude.{ℕ, Bool, not, ◌&&◌, ◌||◌, List, Option, leb, length, ℤ, pos, negsuc, int_lt}
use Rattle.wh_events.specs.declared.place.Thing.{Thing}
use Rattle.wh_events.specs.Machines.{or_else}
use Rattle.wh_workflow.specs.declared.command.Command.{Command}
use Rattle.wh_workflow.specs.declared.fault.WorkflowFault.{WorkflowFault}
use Rattle.wh_workflow.specs.declared.fault.WorkflowFault.TheVariants.{AfterClosing, TooManyCommands, IdInUse, IdReused, NotOpen, AlreadyCancelling, BadRange, VersionOutOfRange}
use Rattle.wh_workflow.specs.Scripts.{act_opens, act_cancels, act_closes, some_act, left_open, withdrawn, is_timer, fault_if, given, most_commands}
use Rattle.wh_match.specs.declared.standing.Standing.{Standing}

-- why no command can follow the earlier ones
abbrev pub early_fault : List Command → Option WorkflowFault
early_fault earlier =
    or_else (fault_if (some_act act_closes earlier) AfterClosing)
    (fault_if (leb most_commands (length (given earlier))) TooManyCommands)

-- the thing is still open after the earlier commands
abbrev pub still_open_by : Standing → List Command → Thing → List ℕ → Bool
still_open_by standing earlier thing id =
    left_open thing id earlier || (standing.is_open && not (is_timer thing && some_act (act_cancels thing id) earlier))

-- a cancel comes late: the thing is neither open at the cut nor opened in this activation, and was closed by an outside
-- event of it
abbrev pub is_late_by : Standing → List Command → Thing → List ℕ → Bool
is_late_by standing earlier thing id =
    not standing.is_open && (not (some_act (act_opens thing id) earlier) && standing.is_ended)

-- the activity or child was canceled before
abbrev pub is_canceled_by : Standing → List Command → Thing → List ℕ → Bool
is_canceled_by standing earlier thing id =
    not (is_timer thing) && (standing.is_cancelling || (standing.is_open && some_act (act_cancels thing id) earlier))

-- why a command can't open a thing that stands so
abbrev pub opening_fault_by : Standing → List Command → Thing → List ℕ → Option WorkflowFault
opening_fault_by standing earlier thing id =
    or_else (fault_if (still_open_by standing earlier thing id) IdInUse)
    (fault_if (withdrawn thing id earlier) IdReused)

-- why a command can't cancel a thing that stands so
abbrev pub cancel_fault_by : Standing → List Command → Thing → List ℕ → Option WorkflowFault
cancel_fault_by standing earlier thing id =
    or_else
    (fault_if (not (still_open_by standing earlier thing id) && not (is_late_by standing earlier thing id)) NotOpen)
    (fault_if (is_canceled_by standing earlier thing id) AlreadyCancelling)

-- why an ask with this range, which gets this version, is invalid
abbrev pub range_fault : ℤ → ℤ → ℤ → Option WorkflowFault
range_fault version low high =
    or_else (fault_if (int_lt high low || (int_lt low (negsuc 0) || int_lt high (pos 0))) BadRange)
    (fault_if (int_lt version low || int_lt high version) VersionOutOfRange)
