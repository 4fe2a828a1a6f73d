-- The commands that an activation has issued, and what is sent of them.
use Rattle.std.specs.Prelude.{ℕ, Bool, true, false, not, ◌&&◌, List, [], ◌∷◌, ◌++◌, take, Option, if◌then◌else◌, ℤ}
use Rattle.wh_events.specs.declared.event.Event.{Event}
use Rattle.wh_machines.specs.Lookups.{events_between}
use Rattle.wh_workflow.specs.declared.command.Command.{Command}
use Rattle.wh_workflow.specs.declared.command.Command.TheVariants.{Ask}
use Rattle.wh_workflow.specs.Scripts.{ActivationContext, Settled, Choice, Act, act_of, act_cancels, some_act, left_open, is_late, choice_by, lookup_version}
use Rattle.wh_workflow.specs.Scripts.Act.{Opening, Cancelling, Asking}
use Rattle.wh_workflow.specs.Activations.{marker_if}

-- the commands that the activation at a cut has issued, with the asks and the markers, and for each of them whether it
-- was a late cancel when it was issued
pub record Issuing : Type 0 where
  -- the number of the cut before, or 0
  pub previous : ℕ
  pub cut : ℕ
  pub issued : List Command
  pub late : List Bool

-- what an activation knows at the cut with a number, after the cut before
abbrev pub context_at : List Event → ℕ → ℕ → Option (List Event) → ActivationContext
context_at events previous cut recorded =
    record { seen = take cut events; between = events_between events previous cut; recorded = recorded }

-- what the activation of a script knows
abbrev pub context_in : List Event → Issuing → Option (List Event) → ActivationContext
context_in events script recorded = context_at events script.previous script.cut recorded

-- a command that does this after the earlier ones is a late cancel
abbrev pub is_late_act : ActivationContext → List Command → Act → Bool
is_late_act context earlier (Cancelling thing id) = is_late context earlier thing id
is_late_act context earlier _ = false

-- for each of the commands after the earlier ones, whether it is a late cancel
abbrev pub late_after : ActivationContext → List Command → List Command → List Bool
late_after context earlier [] = []
late_after context earlier (command ∷ rest) =
    is_late_act context earlier (act_of command) ∷ late_after context (earlier ++ command ∷ []) rest

-- for each of the issued commands, whether it is a late cancel
abbrev pub late_marks : ActivationContext → List Command → List Bool
late_marks context issued = late_after context [] issued

-- the script with one more command
abbrev pub with_issued : Issuing → Command → Bool → Issuing
with_issued script command late =
    record {
      previous = script.previous;
      cut = script.cut;
      issued = script.issued ++ command ∷ [];
      late = script.late ++ late ∷ [];
    }

-- the mark of a marker, if one is issued: no late cancel
abbrev pub unmarked_if : Bool → List Bool
unmarked_if true = false ∷ []
unmarked_if false = []

-- the version of an ask with this record, and whether a marker is issued for it
abbrev pub choice_in : Option (List Event) → Settled → List ℕ → ℤ → Choice
choice_in recorded settled change_id high = choice_by (lookup_version change_id settled) recorded change_id high

-- the script with an ask, and with the marker that is issued for it, if any
abbrev pub with_asked : Issuing → List ℕ → ℤ → ℤ → Choice → Issuing
with_asked script change_id low high choice = record {
  previous = script.previous;
  cut = script.cut;
  issued = (script.issued ++ Ask change_id low high ∷ []) ++ marker_if choice.marked change_id choice.version;
  late = (script.late ++ false ∷ []) ++ unmarked_if choice.marked;
}

-- a command that does this between earlier and later ones is sent: it is no opening that a later command cancels, no
-- cancel of what an earlier one opened, no late cancel and no ask
abbrev pub is_sent_by : Bool → List Command → List Command → Act → Bool
is_sent_by late earlier later (Opening thing id) = not (some_act (act_cancels thing id) later)
is_sent_by late earlier later (Cancelling thing id) = not (left_open thing id earlier) && not late
is_sent_by late earlier later (Asking _ _ _) = false
is_sent_by _ _ _ _ = true

-- what is sent of commands after the earlier ones, each with its mark
abbrev pub sent_by : List Command → List Bool → List Command → List Command
sent_by earlier (late ∷ marks) (command ∷ later) =
    if is_sent_by late earlier later (act_of command) then command ∷ sent_by (earlier ++ command ∷ []) marks later
    else sent_by (earlier ++ command ∷ []) marks later
sent_by earlier _ _ = []

-- what is sent of the issued commands, each marked by whether it came late
abbrev pub reduced_by : List Bool → List Command → List Command
reduced_by marks issued = sent_by [] marks issued
