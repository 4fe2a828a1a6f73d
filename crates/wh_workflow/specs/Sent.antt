-- What is sent of the commands that an activation issues, stated over each of them with those before and after it.
use Rattle.std.specs.Prelude.{◌≡◌, ℕ, ◌↔◌, ◌⊎◌, Bool, false, List, [], ◌∷◌, ◌++◌, length, Some, if◌then◌else◌, slice_get}
use Rattle.wh_events.specs.declared.place.Thing.{Thing}
use Rattle.wh_workflow.specs.declared.command.Command.{Command}
use Rattle.wh_workflow.specs.Scripts.{ActivationContext, Act, act_of, reduced}
use Rattle.wh_workflow.specs.Scripts.Act.{Opening, Cancelling, Asking}
use Rattle.wh_workflow.specs.CommandFaults.{IsOfCut, Does, IsLeftOpen, IsLateCancel}

-- a command between earlier and later ones is not sent: an opening that a later one cancels, the next cancel of what an
-- earlier one opens, a late cancel, or an ask
abbrev pub IsDropped : ActivationContext → List Command → List Command → Act → Type 0
IsDropped context earlier later (Opening thing id) = Does later (Cancelling thing id)
IsDropped context earlier later (Cancelling thing id) =
    IsLeftOpen thing id earlier ⊎ IsLateCancel context earlier thing id
IsDropped context earlier later (Asking _ _ _) = Unit {0}
IsDropped context earlier later _ = ⊥

-- the commands that have a mark, in their order
abbrev pub marked : List Bool → List Command → List Command
marked (mark ∷ marks) (command ∷ rest) = if mark then command ∷ marked marks rest else marked marks rest
marked _ _ = []

-- exactly the issued commands that have a mark are sent, and exactly the dropped ones have none
pub record SendsTheRest (context : ActivationContext) (issued : List Command) : Type 0 where
  pub marks : List Bool
  pub each : length marks ≡ length issued
  pub sent : reduced context issued ≡ marked marks issued
  pub dropped : (earlier later : List Command) (command : Command) → issued ≡ earlier ++ command ∷ later
      → (slice_get marks (length earlier) ≡ Some false) ↔ IsDropped context earlier later (act_of command)

-- at a cut all issued commands except the dropped ones are sent, in their order
abbrev pub SendsAllButDropped : Type 0
SendsAllButDropped =
    (context : ActivationContext) (issued : List Command) → IsOfCut context → SendsTheRest context issued

-- an opening and the next cancel of it are dropped together
abbrev pub DropsPairs : Type 0
DropsPairs =
    (context : ActivationContext) (before between after : List Command) (opening cancel : Command) (thing : Thing)
    (id : List ℕ)
    → act_of opening ≡ Opening thing id → act_of cancel ≡ Cancelling thing id → ¬ Does between (Cancelling thing id)
    → IsDropped context before (between ++ cancel ∷ after) (act_of opening)
    × IsDropped context (before ++ opening ∷ between) after (act_of cancel)
