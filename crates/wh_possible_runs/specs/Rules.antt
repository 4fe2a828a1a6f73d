-- The state machine of a thing follows the rules of `wh_workflow` for the commands of an activation.
use Rattle.std.specs.Prelude.{◌≡◌, ℕ, Bool, true, false, not, ◌&&◌, cond, List, [], ◌∷◌, ◌++◌, None, is_none, IsTrue, IsFalse}
use Rattle.wh_events.specs.declared.place.Thing.{Thing}
use Rattle.wh_events.specs.Machines.{open_named, last_named}
use Rattle.wh_workflow.specs.declared.command.Command.{Command}
use Rattle.wh_workflow.specs.Scripts.{ActivationContext, Act, act_of, act_opens, act_cancels, some_act, left_open, withdrawn, is_timer, open_at, has_outside, closer_of, cancels_open, opening_fault, cancel_fault}
use Rattle.wh_workflow.specs.Scripts.Act.{Opening, Cancelling}
use Rattle.wh_possible_runs.specs.declared.thing.Phase.{Phase}
use Rattle.wh_possible_runs.specs.declared.thing.Phase.TheVariants.{Absent, Open, AskedToCancel, Ended, EndTold}
use Rattle.wh_possible_runs.specs.declared.thing.Touch.{Touch}
use Rattle.wh_possible_runs.specs.declared.thing.Touch.TheVariants.{Untouched, Opened, Withdrawn, Canceled}
use Rattle.wh_possible_runs.specs.declared.thing.ThingState.{ThingState}
use Rattle.wh_possible_runs.specs.Things.{is_free, may_cancel, touch_after_cancel}
use Rattle.wh_possible_runs.specs.Situations.{ThingName, Situation, is_named, after_commands}
use Rattle.wh_possible_runs.specs.Shown.{has_name}

-- the phase of a thing at a cut, by what is so of it
abbrev pub phase_by : Bool → Bool → Bool → Bool → Phase
phase_by timer here asked ended =
    elim here [ true ↦ cond (not timer && asked) AskedToCancel Open | false ↦ cond ended EndTold Absent ]

-- the phase of a thing at the cut of an activation
abbrev pub phase_at : ActivationContext → Thing → List ℕ → Phase
phase_at context thing id =
    phase_by (is_timer thing) (open_at context thing id) (cancels_open context (open_named context.seen thing id))
    (has_outside (closer_of context.seen (last_named context.seen thing id)) context.between)

-- what commands have done with a thing, by what is so of them
abbrev pub touch_by : Bool → Bool → Bool → Bool → Touch
touch_by here true withdrawn canceled = Opened
touch_by here false true canceled = Withdrawn
touch_by true false false true = Canceled
touch_by _ _ _ _ = Untouched

-- what the earlier commands of an activation have done with a thing
abbrev pub touch_at : ActivationContext → List Command → Thing → List ℕ → Touch
touch_at context earlier thing id =
    touch_by (open_at context thing id) (left_open thing id earlier) (withdrawn thing id earlier)
    (some_act (act_cancels thing id) earlier)

-- what one more command has done with it, that opens it, or cancels it, or does neither
abbrev pub touched : Phase → Bool → Bool → Touch → Touch
touched phase opens cancels touch = cond opens Opened (cond cancels (touch_after_cancel phase touch) touch)

-- what does this after earlier commands of an activation neither opens nor cancels a thing at fault
abbrev pub IsWell : ActivationContext → List Command → Act → Type 0
IsWell context earlier (Opening thing id) = opening_fault context earlier thing id ≡ None
IsWell context earlier (Cancelling thing id) = cancel_fault context earlier thing id ≡ None
IsWell context earlier _ = Unit {0}

-- none of these commands does, each after the earlier ones and those before it
abbrev pub AreWell : ActivationContext → List Command → List Command → Type 0
AreWell context earlier [] = Unit {0}
AreWell context earlier (command ∷ rest) =
    IsWell context earlier (act_of command) × AreWell context (earlier ++ command ∷ []) rest

-- After commands without a fault, a command that opens or cancels a thing is at fault exactly if the state machine of
-- the thing says so; and each command without a fault changes the thing as the machine says.
abbrev pub FollowsRules : Type 0
FollowsRules =
    (context : ActivationContext) (earlier : List Command) (thing : Thing) (id : List ℕ)
    → AreWell context [] earlier
    → (is_none (opening_fault context earlier thing id)
    ≡ is_free thing (phase_at context thing id) (touch_at context earlier thing id))
    × (is_none (cancel_fault context earlier thing id)
    ≡ may_cancel (phase_at context thing id) (touch_at context earlier thing id))
    × ((command : Command) → IsWell context earlier (act_of command)
    → touch_at context (earlier ++ command ∷ []) thing id
    ≡ touched (phase_at context thing id) (act_opens thing id (act_of command)) (act_cancels thing id (act_of command))
    (touch_at context earlier thing id))

-- the rules do not see whether the run has been told of an end
abbrev pub by_rules : Phase → Phase
by_rules Ended = EndTold
by_rules phase = phase

-- a thing is as the rules say after these commands of an activation
abbrev pub IsSo : ActivationContext → List Command → ThingName → ThingState → Type 0
IsSo context earlier name one =
    (by_rules one.phase ≡ phase_at context name.0 name.1) × (one.touch ≡ touch_at context earlier name.0 name.1)

-- each of them is
abbrev pub AreSo : ActivationContext → List Command → List ThingName → List ThingState → Type 0
AreSo context earlier [] [] = Unit {0}
AreSo context earlier (name ∷ names) (one ∷ rest) =
    IsSo context earlier name one × AreSo context earlier names rest
AreSo context earlier _ _ = ⊥

-- none of the others is the same
abbrev pub is_new : ThingName → List ThingName → Bool
is_new name [] = true
is_new name (other ∷ rest) = not (is_named name.0 name.1 other) && is_new name rest

-- no two are the same
abbrev pub are_distinct : List ThingName → Bool
are_distinct [] = true
are_distinct (name ∷ rest) = is_new name rest && are_distinct rest

-- what it opens or cancels has one of the names
abbrev pub is_covered : List ThingName → Act → Bool
is_covered names (Opening thing id) = has_name names thing id
is_covered names (Cancelling thing id) = has_name names thing id
is_covered names _ = true

-- so it is with all commands
abbrev pub are_covered : List ThingName → List Command → Bool
are_covered names [] = true
are_covered names (command ∷ rest) = is_covered names (act_of command) && are_covered names rest

-- If things are as the rules say at the cut, and none of the commands of an activation opens or cancels a thing at
-- fault by the rules, then none is at fault for the run, and things are as the rules say after them.
abbrev pub ActsAsRules : Type 0
ActsAsRules =
    (context : ActivationContext) (names : List ThingName) (commands : List Command) (now : Situation)
    → IsTrue (are_distinct names) → IsTrue (are_covered names commands) → AreSo context [] names now.things
    → AreWell context [] commands
    → ((after_commands names commands now).faulty ≡ now.faulty)
    × AreSo context commands names (after_commands names commands now).things

-- If things are as the rules say at the cut, and none of the commands of an activation is at fault for the run, then
-- none opens or cancels a thing at fault by the rules.
abbrev pub FaultsAreSeen : Type 0
FaultsAreSeen =
    (context : ActivationContext) (names : List ThingName) (commands : List Command) (now : Situation)
    → IsTrue (are_distinct names) → IsTrue (are_covered names commands) → AreSo context [] names now.things
    → IsFalse (after_commands names commands now).faulty → AreWell context [] commands
