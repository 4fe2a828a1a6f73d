-- Which rows of the table of workflow faults apply to a command, stated over the commands before it and the history up
-- to the cut.
use Rattle.std.specs.Prelude.{◌≡◌, ℕ, ◌≤◌, ◌⊎◌, List, [], ◌∷◌, ◌++◌, length, IsTrue, pos, negsuc, ◌<ℤ◌}
use Rattle.wh_events.specs.declared.event.Event.{Event}
use Rattle.wh_events.specs.declared.place.Status.TheVariants.{Cancelling as CancellingStatus}
use Rattle.wh_events.specs.declared.place.Thing.{Thing}
use Rattle.wh_events.specs.declared.place.Thing.TheVariants.{Timer}
use Rattle.wh_events.specs.Cuts.{is_outside}
use Rattle.wh_events.specs.Machines.{closes, status_of}
use Rattle.wh_events.specs.InPlace.{InPlace, IsAt, HasOpen}
use Rattle.wh_events.specs.Rows.{IsLeastOrNone}
use Rattle.wh_events.specs.Names.{IsOpenUnder, IsLastUnder}
use Rattle.wh_workflow.specs.declared.command.Command.{Command}
use Rattle.wh_workflow.specs.declared.fault.WorkflowFault.{WorkflowFault}
use Rattle.wh_workflow.specs.declared.fault.WorkflowFault.TheVariants.{AfterClosing, TooManyCommands, IdInUse, IdReused, NotOpen, AlreadyCancelling, BadRange, VersionOutOfRange, UnknownWorkflow}
use Rattle.wh_workflow.specs.Scripts.{ActivationContext, Settled, Act, act_of, choice_of, given, most_commands, command_fault}
use Rattle.wh_workflow.specs.Scripts.Act.{Opening, Cancelling, Closing, Asking}

-- the context is that of a cut, the last event of a history in place; the events between are those right before it
pub record IsOfCut (context : ActivationContext) : Type 0 where
  pub in_place : InPlace context.seen
  pub ends : (passed : List Event) × (cut : Event) × (context.seen ≡ passed ++ (context.between ++ cut ∷ []))

-- one of the commands does this
abbrev pub Does : List Command → Act → Type 0
Does commands act =
    (before : List Command) × (command : Command) × (after : List Command) × (commands ≡ before ++ command ∷ after)
    × (act_of command ≡ act)

-- one of the commands opens the thing, and no later one cancels it
abbrev pub IsLeftOpen : Thing → List ℕ → List Command → Type 0
IsLeftOpen thing id commands =
    (before : List Command) × (opening : Command) × (after : List Command) × (commands ≡ before ++ opening ∷ after)
    × (act_of opening ≡ Opening thing id) × ¬ Does after (Cancelling thing id)

-- one of the commands opens the thing, and a later one cancels it
abbrev pub IsWithdrawn : Thing → List ℕ → List Command → Type 0
IsWithdrawn thing id commands =
    (before : List Command) × (opening : Command) × (after : List Command) × (commands ≡ before ++ opening ∷ after)
    × (act_of opening ≡ Opening thing id) × Does after (Cancelling thing id)

-- the thing is open by now: opened in this activation and not canceled since, or open at the cut and no timer that was
-- canceled in this activation
abbrev pub IsStillOpen : ActivationContext → List Command → Thing → List ℕ → Type 0
IsStillOpen context earlier thing id =
    IsLeftOpen thing id earlier
    ⊎ (HasOpen context.seen thing id × ¬ ((thing ≡ Timer) × Does earlier (Cancelling thing id)))

-- the last opening of the thing was closed by an outside event of this activation
abbrev pub IsEndedHere : ActivationContext → Thing → List ℕ → Type 0
IsEndedHere context thing id =
    (number : ℕ) × (i : ℕ) × (closer : Event) × IsLastUnder context.seen thing id number
    × IsAt context.between i closer × IsTrue (is_outside closer) × IsTrue (closes number closer)

-- a cancel of the thing is late: the thing is not open at the cut, was not opened in this activation, and was closed by
-- an outside event of this activation
abbrev pub IsLateCancel : ActivationContext → List Command → Thing → List ℕ → Type 0
IsLateCancel context earlier thing id =
    (¬ HasOpen context.seen thing id) × (¬ Does earlier (Opening thing id)) × IsEndedHere context thing id

-- the thing that is open under the id is cancelling at the cut
abbrev pub IsCancellingAtCut : ActivationContext → Thing → List ℕ → Type 0
IsCancellingAtCut context thing id =
    (number : ℕ) × IsOpenUnder context.seen thing id number × (status_of context.seen number ≡ CancellingStatus)

-- the command opens a thing under an id that is in use
abbrev pub UsesId : ActivationContext → List Command → Act → Type 0
UsesId context earlier (Opening thing id) = IsStillOpen context earlier thing id
UsesId context earlier _ = ⊥

-- the command opens a thing that this activation opened and then canceled
abbrev pub ReusesId : List Command → Act → Type 0
ReusesId earlier (Opening thing id) = IsWithdrawn thing id earlier
ReusesId earlier _ = ⊥

-- the command cancels a thing that is not open by now, and is no late cancel
abbrev pub CancelsNothing : ActivationContext → List Command → Act → Type 0
CancelsNothing context earlier (Cancelling thing id) =
    (¬ IsStillOpen context earlier thing id) × ¬ IsLateCancel context earlier thing id
CancelsNothing context earlier _ = ⊥

-- the command cancels an activity or child that is cancelling at the cut, or open at it and canceled in this activation
abbrev pub CancelsAgain : ActivationContext → List Command → Act → Type 0
CancelsAgain context earlier (Cancelling thing id) =
    (¬ (thing ≡ Timer)) × (IsCancellingAtCut context thing id
    ⊎ (HasOpen context.seen thing id × Does earlier (Cancelling thing id)))
CancelsAgain context earlier _ = ⊥

-- the command is an ask whose least version is above the greatest or below -1, or whose greatest is below 0
abbrev pub AsksBadRange : Act → Type 0
AsksBadRange (Asking change_id low high) = (high <ℤ low) ⊎ ((low <ℤ negsuc 0) ⊎ (high <ℤ pos 0))
AsksBadRange _ = ⊥

-- the command is an ask that gets a version out of its range
abbrev pub GetsOutOfRange : ActivationContext → Settled → Act → Type 0
GetsOutOfRange context settled (Asking change_id low high) =
    let version = (choice_of context settled change_id high).version in (version <ℤ low) ⊎ (high <ℤ version)
GetsOutOfRange context settled _ = ⊥

-- the row of the table applies to a command after those before it
abbrev pub RowApplies : ActivationContext → Settled → List Command → Command → WorkflowFault → Type 0
RowApplies context settled earlier command AfterClosing = Does earlier Closing
RowApplies context settled earlier command TooManyCommands = most_commands ≤ length (given earlier)
RowApplies context settled earlier command IdInUse = UsesId context earlier (act_of command)
RowApplies context settled earlier command IdReused = ReusesId earlier (act_of command)
RowApplies context settled earlier command NotOpen = CancelsNothing context earlier (act_of command)
RowApplies context settled earlier command AlreadyCancelling = CancelsAgain context earlier (act_of command)
RowApplies context settled earlier command BadRange = AsksBadRange (act_of command)
RowApplies context settled earlier command VersionOutOfRange = GetsOutOfRange context settled (act_of command)
RowApplies context settled earlier command UnknownWorkflow = ⊥

-- the number of a row in the table
abbrev pub row_of : WorkflowFault → ℕ
row_of AfterClosing = 1
row_of TooManyCommands = 2
row_of IdInUse = 3
row_of IdReused = 4
row_of NotOpen = 5
row_of AlreadyCancelling = 6
row_of BadRange = 7
row_of VersionOutOfRange = 8
row_of UnknownWorkflow = 9

-- the fault of a command at a cut is the least row of the table that applies
abbrev pub LeastRowDecides : Type 0
LeastRowDecides =
    (context : ActivationContext) (settled : Settled) (earlier : List Command) (command : Command) → IsOfCut context
    → IsLeastOrNone row_of (RowApplies context settled earlier command) (command_fault context settled earlier command)
