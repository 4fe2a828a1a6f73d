-- The commands that are sent beside the recorded events, up to the first difference.
use Rattle.std.specs.Prelude.{ℕ, ◌+◌, Bool, true, false, List, [], ◌∷◌, Option, Some, None, if◌then◌else◌}
use Rattle.wh_events.specs.declared.event.Event.{Event}
use Rattle.wh_events.specs.Kinds.{Role, role_of}
use Rattle.wh_events.specs.Kinds.Role.{Refers}
use Rattle.wh_workflow.specs.declared.command.Command.{Command}
use Rattle.wh_workflow.specs.declared.fault.Mismatch.{Mismatch}
use Rattle.wh_workflow.specs.declared.fault.Mismatch.TheVariants as mismatches
use Rattle.wh_workflow.specs.Jobs.{id_at}
use Rattle.wh_workflow.specs.Names.{names}
use Rattle.wh_explained_tasks.specs.declared.RecordedEvent.{RecordedEvent}
use Rattle.wh_explained_tasks.specs.declared.Pairing.{Pairing}
use Rattle.wh_explained_tasks.specs.declared.Pairing.TheVariants.{Alike, Different, CommandMissing, CommandExtra}

-- the id of what an event of the role refers to by a number
abbrev pub referred_by : List Event → Role → List ℕ
referred_by history (Refers _ number _) = id_at history number
referred_by history _ = []

abbrev pub referred_id : List Event → Event → List ℕ
referred_id history event = referred_by history (role_of event.body)

-- a recorded event, with what is shown of it
abbrev pub recorded_event : List Event → Event → RecordedEvent
recorded_event history event = record { number = event.number; kind = event.body; id = referred_id history event }

-- a command and the event in its place
abbrev pub pairing_of : List Event → Command → Event → Pairing
pairing_of history command event =
    let recorded = recorded_event history event in
    if names history command event.body then Alike command recorded else Different command recorded

-- each command beside the event in its place, up to the first pair that doesn't match, or to the first command or event
-- that is alone
abbrev pub pairings : List Event → List Command → List Event → List Pairing
pairings history [] [] = []
pairings history [] (event ∷ _) = CommandMissing (recorded_event history event) ∷ []
pairings history (command ∷ _) [] = CommandExtra command ∷ []
pairings history (command ∷ commands) (event ∷ events) =
    pairing_of history command event
    ∷ (if names history command event.body then pairings history commands events else [])

-- the command differs from the record
abbrev pub differs : Pairing → Bool
differs (Alike _ _) = false
differs _ = true

-- the first difference among pairings; the command of the first pairing has the place `index`
abbrev pub difference_from : ℕ → List Pairing → Option Mismatch
difference_from index [] = None
difference_from index (Alike _ _ ∷ rest) = difference_from (index + 1) rest
difference_from index (Different _ event ∷ _) = Some (mismatches.Different event.number)
difference_from index (CommandMissing event ∷ _) = Some (mismatches.CommandMissing event.number)
difference_from index (CommandExtra _ ∷ _) = Some (mismatches.CommandExtra index)
