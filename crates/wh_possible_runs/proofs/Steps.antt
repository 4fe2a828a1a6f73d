-- An activation without a fault by the rules has none for the run.
use Rattle.std.proofs.Common.{◌≡◌, ℕ, Bool, true, false, not, ◌&&◌, List, [], ◌∷◌, ◌++◌, refl, ap, ap₂, sym, subst, ◌∙◌, Option, Some, None}
use Rattle.std.specs.Prelude.{bytes_eq, is_none}
use Rattle.std.proofs.lemmas.Bool.{both_ways, and_parts, not-true}
use Rattle.std.proofs.lemmas.Slice.Eq.{bytes_eq-Decides}
use Rattle.wh_events.specs.declared.place.Thing.{Thing}
use Rattle.wh_events.specs.declared.place.Thing.TheVariants as things
use Rattle.wh_events.specs.Machines.{same_thing}
use Rattle.wh_workflow.specs.declared.command.Command.{Command}
use Rattle.wh_workflow.specs.declared.fault.WorkflowFault.{WorkflowFault}
use Rattle.wh_workflow.specs.Scripts.{ActivationContext, Act, act_of, act_opens, act_cancels, opening_fault, cancel_fault}
use Rattle.wh_workflow.specs.Scripts.Act.{Opening, Cancelling, Asking, Closing, Other}
use Rattle.wh_possible_runs.specs.Rules.{phase_at, touch_at, touched, by_rules, IsSo, AreSo, is_new, are_distinct, is_covered, are_covered, IsWell, AreWell, ActsAsRules, FaultsAreSeen}
use Rattle.wh_possible_runs.specs.Shown.{has_name}
use Rattle.wh_possible_runs.specs.Situations.{Situation, ThingName, is_named, keep_first, change_first, with_change, or_faulty, after_act, after_commands}
use Rattle.wh_possible_runs.specs.Things.{is_free, may_cancel, touch_after_cancel, open_thing, cancel_thing}
use Rattle.wh_possible_runs.specs.declared.thing.Phase.{Phase}
use Rattle.wh_possible_runs.specs.declared.thing.Phase.TheVariants.{Absent, Open, AskedToCancel, Ended, EndTold}
use Rattle.wh_possible_runs.specs.declared.thing.ThingState.{ThingState}
use Rattle.wh_possible_runs.specs.declared.thing.Touch.{Touch}
use Rattle.wh_possible_runs.specs.declared.thing.Touch.TheVariants.{Untouched, Opened, Withdrawn, Canceled}
use Rattle.wh_possible_runs.proofs.Rules.{follows, things_are, append_one, append_none}

free_so : (thing : Thing) (phase : Phase) (touch : Touch) → is_free thing phase touch ≡ is_free thing (by_rules phase) touch
free_so thing Ended Untouched = refl
free_so thing Ended Opened = refl
free_so thing Ended Withdrawn = refl
free_so thing Ended Canceled = refl
free_so thing Absent touch = refl
free_so thing Open touch = refl
free_so thing AskedToCancel touch = refl
free_so thing EndTold touch = refl

cancel_so : (phase : Phase) (touch : Touch) → may_cancel phase touch ≡ may_cancel (by_rules phase) touch
cancel_so Ended Untouched = refl
cancel_so Ended Opened = refl
cancel_so Ended Withdrawn = refl
cancel_so Ended Canceled = refl
cancel_so Absent touch = refl
cancel_so Open touch = refl
cancel_so AskedToCancel touch = refl
cancel_so EndTold touch = refl

after_so : (phase : Phase) (touch : Touch) → touch_after_cancel phase touch ≡ touch_after_cancel (by_rules phase) touch
after_so Ended Untouched = refl
after_so Ended Opened = refl
after_so Ended Withdrawn = refl
after_so Ended Canceled = refl
after_so Absent touch = refl
after_so Open touch = refl
after_so AskedToCancel touch = refl
after_so EndTold touch = refl

things_swap : (one other : Thing) → same_thing one other ≡ same_thing other one
things_swap things.Activity things.Activity = refl
things_swap things.Timer things.Timer = refl
things_swap things.Child things.Child = refl
things_swap things.CancelRequest things.CancelRequest = refl
things_swap things.SignalRequest things.SignalRequest = refl
things_swap _ _ = refl

bytes_swap : (a b : List ℕ) → bytes_eq a b ≡ bytes_eq b a
bytes_swap a b = by (bytes_eq a b) refl (bytes_eq b a) refl
  where
    by : (t : Bool) → bytes_eq a b ≡ t → (u : Bool) → bytes_eq b a ≡ u → t ≡ u
    by true p true q = refl
    by false p false q = refl
    by true p false q = absurd (both_ways (bytes_eq b a) q ((bytes_eq-Decides b a).1 (sym ((bytes_eq-Decides a b).0 p))))
    by false p true q = absurd (both_ways (bytes_eq a b) p ((bytes_eq-Decides a b).1 (sym ((bytes_eq-Decides b a).0 q))))

pub named_swap : (thing : Thing) (id : List ℕ) (name : ThingName)
    → (same_thing name.0 thing && bytes_eq name.1 id) ≡ is_named thing id name
named_swap thing id name = ap₂ (λ a b. a && b) (things_swap name.0 thing) (bytes_swap name.1 id)

module _ (context : ActivationContext) (earlier : List Command) (command : Command)
    (none : AreWell context [] earlier)
    (fine : IsWell context earlier (act_of command)) where
  -- a thing that the command leaves alone
  alone : (name : ThingName) (one : ThingState) → act_opens name.0 name.1 (act_of command) ≡ false
      → act_cancels name.0 name.1 (act_of command) ≡ false → IsSo context earlier name one
      → IsSo context (earlier ++ command ∷ []) name one
  alone name one opens cancels so =
      let next : touch_at context (earlier ++ command ∷ []) name.0 name.1
      ≡ touched (phase_at context name.0 name.1) (act_opens name.0 name.1 (act_of command)) (act_cancels name.0 name.1 (act_of command))
      (touch_at context earlier name.0 name.1) = (follows context earlier name.0 name.1 none).2 command fine in
      let same : touched (phase_at context name.0 name.1) (act_opens name.0 name.1 (act_of command)) (act_cancels name.0 name.1 (act_of command))
      (touch_at context earlier name.0 name.1) ≡ touch_at context earlier name.0 name.1 =
      ap₂ (λ (o c : Bool). touched (phase_at context name.0 name.1) o c (touch_at context earlier name.0 name.1)) opens cancels in
      (so.0, so.1 ∙ sym (next ∙ same))

  module _ (thing : Thing) (id : List ℕ) (change : ThingState → Option ThingState)
      (leaves : (name : ThingName) (one : ThingState) → is_named thing id name ≡ false → IsSo context earlier name one
      → IsSo context (earlier ++ command ∷ []) name one)
      (changes : (name : ThingName) (one : ThingState) → is_named thing id name ≡ true → IsSo context earlier name one
      → (next : ThingState) × (change one ≡ Some next) × IsSo context (earlier ++ command ∷ []) name next) where
    others : (name : ThingName) (names : List ThingName) (list : List ThingState) → is_named thing id name ≡ true → is_new name names ≡ true
        → AreSo context earlier names list → AreSo context (earlier ++ command ∷ []) names list
    others name [] [] is new agree = tt
    others name [] (one ∷ rest) is new agree = absurd agree
    others name (other ∷ names) [] is new agree = absurd agree
    others name (other ∷ names) (one ∷ rest) is new agree =
        let parts : (not (is_named name.0 name.1 other) ≡ true) × (is_new name names ≡ true) =
        and_parts (not (is_named name.0 name.1 other)) (is_new name names) new in
        let both : (same_thing thing name.0 ≡ true) × (bytes_eq id name.1 ≡ true) = and_parts (same_thing thing name.0) (bytes_eq id name.1) is in
        let t : thing ≡ name.0 = things_are thing name.0 both.0 in
        let i : id ≡ name.1 = (bytes_eq-Decides id name.1).0 both.1 in
        let off : is_named thing id other ≡ false =
        subst (λ kind. is_named kind id other ≡ false) (sym t)
        (subst (λ text. is_named name.0 text other ≡ false) (sym i) (not-true (is_named name.0 name.1 other) parts.0)) in
        (leaves other one off agree.0, others name names rest is parts.1 agree.1)

    found : (names : List ThingName) (list : List ThingState) → has_name names thing id ≡ true → are_distinct names ≡ true
        → AreSo context earlier names list
        → (next : List ThingState) × (with_change change names thing id list ≡ Some next) × AreSo context (earlier ++ command ∷ []) names next
    found [] list there distinct agree = cc
    found (name ∷ names) [] there distinct agree = absurd agree
    found (name ∷ names) (one ∷ rest) there distinct agree =
        by (found names rest) (is_named thing id name) refl there
      where
        parts : (is_new name names ≡ true) × (are_distinct names ≡ true)
        parts = and_parts (is_new name names) (are_distinct names) distinct

        by : (has_name names thing id ≡ true → are_distinct names ≡ true → AreSo context earlier names rest
            → (next : List ThingState) × (with_change change names thing id rest ≡ Some next) × AreSo context (earlier ++ command ∷ []) names next)
            → (t : Bool) → is_named thing id name ≡ t
            → ◌≡◌ {A = Bool} (elim t [ true ↦ true | false ↦ has_name names thing id ]) true
            → (next : List ThingState)
            × (◌≡◌ {A = Option (List ThingState)} (elim t [
              | true ↦ change_first (change one) rest
              | false ↦ keep_first one (with_change change names thing id rest)
            ]) (Some next))
            × AreSo context (earlier ++ command ∷ []) (name ∷ names) next
        by later true p there =
            let here : (next : ThingState) × (change one ≡ Some next) × IsSo context (earlier ++ command ∷ []) name next = changes name one p agree.0 in
            (here.0 ∷ rest, ap (λ (x : Option ThingState). change_first x rest) here.1, (here.2, others name names rest p parts.0 agree.1))
        by later false p there =
            let deep : (next : List ThingState) × (with_change change names thing id rest ≡ Some next) × AreSo context (earlier ++ command ∷ []) names next =
            later there parts.1 agree.1 in
            (one ∷ deep.0, ap (λ (x : Option (List ThingState)). keep_first one x) deep.1, (leaves name one p agree.0, deep.2))

module _ (context : ActivationContext) (earlier : List Command) (command : Command)
    (none : AreWell context [] earlier)
    (fine : IsWell context earlier (act_of command)) where
  next_touch : (name : ThingName) (o c : Bool) → act_opens name.0 name.1 (act_of command) ≡ o
      → act_cancels name.0 name.1 (act_of command) ≡ c
      → touch_at context (earlier ++ command ∷ []) name.0 name.1
      ≡ touched (phase_at context name.0 name.1) o c (touch_at context earlier name.0 name.1)
  next_touch name o c opens cancels =
      (follows context earlier name.0 name.1 none).2 command fine
      ∙ ap₂ (λ (o c : Bool). touched (phase_at context name.0 name.1) o c (touch_at context earlier name.0 name.1)) opens cancels

  all_alone : (names : List ThingName) (list : List ThingState)
      → ((name : ThingName) → (act_opens name.0 name.1 (act_of command) ≡ false) × (act_cancels name.0 name.1 (act_of command) ≡ false))
      → AreSo context earlier names list → AreSo context (earlier ++ command ∷ []) names list
  all_alone [] [] off agree = tt
  all_alone [] (one ∷ rest) off agree = absurd agree
  all_alone (name ∷ names) [] off agree = absurd agree
  all_alone (name ∷ names) (one ∷ rest) off agree =
      (alone context earlier command none fine name one (off name).0 (off name).1 agree.0, all_alone names rest off agree.1)

  module _ (thing : Thing) (id : List ℕ) (is_act : act_of command ≡ Opening thing id) where
    opens_is : (name : ThingName) (t : Bool) → is_named thing id name ≡ t → act_opens name.0 name.1 (act_of command) ≡ t
    opens_is name t is = ap (λ act. act_opens name.0 name.1 act) is_act ∙ named_swap thing id name ∙ is

    cancels_off : (name : ThingName) → act_cancels name.0 name.1 (act_of command) ≡ false
    cancels_off name = ap (λ act. act_cancels name.0 name.1 act) is_act

    opened : (name : ThingName) (one : ThingState) → is_named thing id name ≡ true → IsSo context earlier name one
        → (next : ThingState) × (open_thing thing one ≡ Some next) × IsSo context (earlier ++ command ∷ []) name next
    opened name one is so =
        let both : (same_thing thing name.0 ≡ true) × (bytes_eq id name.1 ≡ true) = and_parts (same_thing thing name.0) (bytes_eq id name.1) is in
        let t : thing ≡ name.0 = things_are thing name.0 both.0 in
        let i : id ≡ name.1 = (bytes_eq-Decides id name.1).0 both.1 in
        let here : opening_fault context earlier thing id ≡ None =
        subst (λ act. IsWell context earlier act) is_act fine in
        let there : opening_fault context earlier name.0 name.1 ≡ None =
        subst (λ text. opening_fault context earlier name.0 text ≡ None) i
        (subst (λ kind. opening_fault context earlier kind id ≡ None) t here) in
        let free : is_free name.0 (phase_at context name.0 name.1) (touch_at context earlier name.0 name.1) ≡ true =
        sym (follows context earlier name.0 name.1 none).0 ∙ ap (λ (x : Option WorkflowFault). is_none x) there in
        let mine : is_free thing one.phase one.touch ≡ true =
        free_so thing one.phase one.touch ∙ ap₂ (λ (b : Phase) (u : Touch). is_free thing b u) so.0 so.1
        ∙ ap (λ kind. is_free kind (phase_at context name.0 name.1) (touch_at context earlier name.0 name.1)) t ∙ free in (
          record one { touch = Opened },
          ap (λ (x : Bool). let next : Option ThingState = elim x [ true ↦ Some (record one { touch = Opened }) | false ↦ None ] in next) mine,
          (so.0, sym (next_touch name true false (opens_is name true is) (cancels_off name))),
        )

    open_step : (names : List ThingName) (list : List ThingState) → has_name names thing id ≡ true → are_distinct names ≡ true
        → AreSo context earlier names list
        → (next : List ThingState) × (with_change (open_thing thing) names thing id list ≡ Some next)
        × AreSo context (earlier ++ command ∷ []) names next
    open_step names list there distinct agree =
        found context earlier command none fine thing id (open_thing thing)
        (λ name one off so. alone context earlier command none fine name one (opens_is name false off) (cancels_off name) so)
        (λ name one is so. opened name one is so)
        names list there distinct agree

  module _ (thing : Thing) (id : List ℕ) (is_act : act_of command ≡ Cancelling thing id) where
    cancels_as : (name : ThingName) (t : Bool) → is_named thing id name ≡ t → act_cancels name.0 name.1 (act_of command) ≡ t
    cancels_as name t is = ap (λ act. act_cancels name.0 name.1 act) is_act ∙ named_swap thing id name ∙ is

    opens_off : (name : ThingName) → act_opens name.0 name.1 (act_of command) ≡ false
    opens_off name = ap (λ act. act_opens name.0 name.1 act) is_act

    canceled : (name : ThingName) (one : ThingState) → is_named thing id name ≡ true → IsSo context earlier name one
        → (next : ThingState) × (cancel_thing one ≡ Some next) × IsSo context (earlier ++ command ∷ []) name next
    canceled name one is so =
        let both : (same_thing thing name.0 ≡ true) × (bytes_eq id name.1 ≡ true) = and_parts (same_thing thing name.0) (bytes_eq id name.1) is in
        let t : thing ≡ name.0 = things_are thing name.0 both.0 in
        let i : id ≡ name.1 = (bytes_eq-Decides id name.1).0 both.1 in
        let here : cancel_fault context earlier thing id ≡ None =
        subst (λ act. IsWell context earlier act) is_act fine in
        let there : cancel_fault context earlier name.0 name.1 ≡ None =
        subst (λ text. cancel_fault context earlier name.0 text ≡ None) i
        (subst (λ kind. cancel_fault context earlier kind id ≡ None) t here) in
        let may : may_cancel (phase_at context name.0 name.1) (touch_at context earlier name.0 name.1) ≡ true =
        sym (follows context earlier name.0 name.1 none).1 ∙ ap (λ (x : Option WorkflowFault). is_none x) there in
        let mine : may_cancel one.phase one.touch ≡ true =
        cancel_so one.phase one.touch ∙ ap₂ (λ (b : Phase) (u : Touch). may_cancel b u) so.0 so.1 ∙ may in (
          record one { touch = touch_after_cancel one.phase one.touch },
          ap (λ (x : Bool). let next : Option ThingState = elim x [ true ↦ Some (record one { touch = touch_after_cancel one.phase one.touch }) | false ↦ None ] in next) mine,
          (
            so.0,
            after_so one.phase one.touch ∙ ap₂ (λ (b : Phase) (u : Touch). touch_after_cancel b u) so.0 so.1
                ∙ sym (next_touch name false true (opens_off name) (cancels_as name true is)),
          ),
        )

    cancel_step : (names : List ThingName) (list : List ThingState) → has_name names thing id ≡ true → are_distinct names ≡ true
        → AreSo context earlier names list
        → (next : List ThingState) × (with_change cancel_thing names thing id list ≡ Some next)
        × AreSo context (earlier ++ command ∷ []) names next
    cancel_step names list there distinct agree =
        found context earlier command none fine thing id cancel_thing
        (λ name one off so. alone context earlier command none fine name one (opens_off name) (cancels_as name false off) so)
        (λ name one is so. canceled name one is so)
        names list there distinct agree

  abbrev Steps : List ThingName → Situation → Act → Type 0
  Steps names now act =
      ((after_act names act now).faulty ≡ now.faulty) × AreSo context (earlier ++ command ∷ []) names (after_act names act now).things

  changed_to : (names : List ThingName) (now : Situation) (x : Option (List ThingState)) (next : List ThingState) → x ≡ Some next
      → AreSo context (earlier ++ command ∷ []) names next
      → ((or_faulty now x).faulty ≡ now.faulty) × AreSo context (earlier ++ command ∷ []) names (or_faulty now x).things
  changed_to names now x next is agree =
      subst (λ (y : Option (List ThingState)). ((or_faulty now y).faulty ≡ now.faulty) × AreSo context (earlier ++ command ∷ []) names (or_faulty now y).things)
      (sym is) (refl, agree)

  step : (names : List ThingName) (now : Situation) (act : Act) → act_of command ≡ act → is_covered names act ≡ true
      → are_distinct names ≡ true → AreSo context earlier names now.things → Steps names now act
  step names now (Opening thing id) is there distinct agree =
      let next : (next : List ThingState) × (with_change (open_thing thing) names thing id now.things ≡ Some next)
      × AreSo context (earlier ++ command ∷ []) names next = open_step thing id is names now.things there distinct agree in
      changed_to names now (with_change (open_thing thing) names thing id now.things) next.0 next.1 next.2
  step names now (Cancelling thing id) is there distinct agree =
      let next : (next : List ThingState) × (with_change cancel_thing names thing id now.things ≡ Some next)
      × AreSo context (earlier ++ command ∷ []) names next = cancel_step thing id is names now.things there distinct agree in
      changed_to names now (with_change cancel_thing names thing id now.things) next.0 next.1 next.2
  step names now Closing is there distinct agree =
      (refl, all_alone names now.things (λ name. (ap (λ act. act_opens name.0 name.1 act) is, ap (λ act. act_cancels name.0 name.1 act) is)) agree)
  step names now (Asking change low high) is there distinct agree =
      (refl, all_alone names now.things (λ name. (ap (λ act. act_opens name.0 name.1 act) is, ap (λ act. act_cancels name.0 name.1 act) is)) agree)
  step names now Other is there distinct agree =
      (refl, all_alone names now.things (λ name. (ap (λ act. act_opens name.0 name.1 act) is, ap (λ act. act_cancels name.0 name.1 act) is)) agree)

well_more : (context : ActivationContext) (start earlier : List Command) (command : Command)
    → AreWell context start earlier → IsWell context (start ++ earlier) (act_of command)
    → AreWell context start (earlier ++ command ∷ [])
well_more context start [] command wells well =
    (subst (λ list. IsWell context list (act_of command)) (append_none start) well, tt)
well_more context start (one ∷ rest) command wells well = (
  wells.0,
  well_more context (start ++ one ∷ []) rest command wells.1
      (subst (λ list. IsWell context list (act_of command)) (sym (append_one start one rest)) well),
)

pub acts_on : (context : ActivationContext) (names : List ThingName) (earlier commands : List Command) (now : Situation)
    → are_distinct names ≡ true → are_covered names commands ≡ true → AreSo context earlier names now.things
    → AreWell context [] earlier → AreWell context earlier commands
    → ((after_commands names commands now).faulty ≡ now.faulty) × AreSo context (earlier ++ commands) names (after_commands names commands now).things
acts_on context names earlier [] now distinct there agree before fine =
    (refl, subst (λ list. AreSo context list names now.things) (sym (append_none earlier)) agree)
acts_on context names earlier (command ∷ rest) now distinct there agree before fine =
    let parts : (is_covered names (act_of command) ≡ true) × (are_covered names rest ≡ true) =
    and_parts (is_covered names (act_of command)) (are_covered names rest) there in
    let here : Steps context earlier command before fine.0 names now (act_of command) =
    step context earlier command before fine.0 names now (act_of command) refl parts.0 distinct agree in
    let on : ((after_commands names rest (after_act names (act_of command) now)).faulty ≡ (after_act names (act_of command) now).faulty)
    × AreSo context ((earlier ++ command ∷ []) ++ rest) names (after_commands names rest (after_act names (act_of command) now)).things =
    acts_on context names (earlier ++ command ∷ []) rest (after_act names (act_of command) now) distinct parts.1 here.1
    (well_more context [] earlier command before fine.0) fine.1 in (
      on.0 ∙ here.0,
      subst (λ list. AreSo context list names (after_commands names rest (after_act names (act_of command) now)).things) (append_one earlier command rest) on.1,
    )

pub acts : ActsAsRules
acts context names commands now distinct there agree fine =
    acts_on context names [] commands now distinct there agree tt fine

-- a fault stays
pub fault_stays : (names : List ThingName) (commands : List Command) (now : Situation)
    → (after_commands names commands now).faulty ≡ false → now.faulty ≡ false
fault_stays names [] now off = off
fault_stays names (command ∷ rest) now off =
    by (act_of command) (fault_stays names rest (after_act names (act_of command) now) off)
  where
    or_off : (x : Option (List ThingState)) → (or_faulty now x).faulty ≡ false → now.faulty ≡ false
    or_off None off = cc
    or_off (Some list) off = off

    by : (act : Act) → (after_act names act now).faulty ≡ false → now.faulty ≡ false
    by (Opening thing id) off = or_off (with_change (open_thing thing) names thing id now.things) off
    by (Cancelling thing id) off = or_off (with_change cancel_thing names thing id now.things) off
    by (Asking _ _ _) off = off
    by Closing off = off
    by Other off = off

module _ (context : ActivationContext) (earlier : List Command) (before : AreWell context [] earlier) where
  -- what changes is so
  so_changed : (thing : Thing) (id : List ℕ) (change : ThingState → Option ThingState) (names : List ThingName)
      (list next : List ThingState) → AreSo context earlier names list → with_change change names thing id list ≡ Some next
      → (one later : ThingState) × IsSo context earlier (thing, id) one × (change one ≡ Some later)
  so_changed thing id change [] list next are is = cc
  so_changed thing id change (name ∷ names) [] next are is = absurd are
  so_changed thing id change (name ∷ names) (one ∷ rest) next are is =
      by (λ next is. so_changed thing id change names rest next are.1 is) (is_named thing id name) refl is
    where
      Found : Type 0
      Found = (one later : ThingState) × IsSo context earlier (thing, id) one × (change one ≡ Some later)

      here : (found : Option ThingState) → change one ≡ found → change_first found rest ≡ Some next → IsSo context earlier (thing, id) one → Found
      here None p is so = cc
      here (Some later) p is so = (one, later, so, p)

      there : ((next : List ThingState) → with_change change names thing id rest ≡ Some next → Found)
          → (found : Option (List ThingState)) → with_change change names thing id rest ≡ found → keep_first one found ≡ Some next → Found
      there deeper None p is = cc
      there deeper (Some list) p is = deeper list p

      by : ((next : List ThingState) → with_change change names thing id rest ≡ Some next → Found)
          → (t : Bool) → is_named thing id name ≡ t
          → ◌≡◌ {A = Option (List ThingState)} (elim t [
            | true ↦ change_first (change one) rest
            | false ↦ keep_first one (with_change change names thing id rest)
          ]) (Some next) → Found
      by deeper true p is =
          let both : (same_thing thing name.0 ≡ true) × (bytes_eq id name.1 ≡ true) = and_parts (same_thing thing name.0) (bytes_eq id name.1) p in
          let t : name.0 ≡ thing = sym (things_are thing name.0 both.0) in
          let i : name.1 ≡ id = sym ((bytes_eq-Decides id name.1).0 both.1) in
          here (change one) refl is
          (subst (λ text. IsSo context earlier (thing, text) one) i
          (subst (λ kind. IsSo context earlier (kind, name.1) one) t are.0))
      by deeper false p is = there deeper (with_change change names thing id rest) refl is

  none_is : (x : Option WorkflowFault) → is_none x ≡ true → x ≡ None
  none_is None is = refl
  none_is (Some fault) is = cc

  when_free : (t : Bool) (one later : ThingState) → ◌≡◌ {A = Option ThingState} (elim t [
    | true ↦ Some one
    | false ↦ None
  ]) (Some later) → t ≡ true
  when_free true one later is = refl
  when_free false one later is = cc

  -- what is not at fault for the run is not at fault by the rules
  act_well : (names : List ThingName) (now : Situation) (act : Act) → AreSo context earlier names now.things
      → (after_act names act now).faulty ≡ false → IsWell context earlier act
  act_well names now (Opening thing id) are off =
      by (with_change (open_thing thing) names thing id now.things) refl off
    where
      by : (x : Option (List ThingState)) → with_change (open_thing thing) names thing id now.things ≡ x
          → (or_faulty now x).faulty ≡ false → opening_fault context earlier thing id ≡ None
      by None p off = cc
      by (Some next) p off =
          let found = so_changed thing id (open_thing thing) names now.things next are p in
          let free : is_free thing found.0.phase found.0.touch ≡ true =
          when_free (is_free thing found.0.phase found.0.touch) (record found.0 { touch = Opened }) found.1 found.3 in
          none_is (opening_fault context earlier thing id)
          ((follows context earlier thing id before).0
          ∙ sym (ap₂ (λ (p : Phase) (t : Touch). is_free thing p t) found.2.0 found.2.1)
          ∙ sym (free_so thing found.0.phase found.0.touch) ∙ free)
  act_well names now (Cancelling thing id) are off =
      by (with_change cancel_thing names thing id now.things) refl off
    where
      by : (x : Option (List ThingState)) → with_change cancel_thing names thing id now.things ≡ x
          → (or_faulty now x).faulty ≡ false → cancel_fault context earlier thing id ≡ None
      by None p off = cc
      by (Some next) p off =
          let found = so_changed thing id cancel_thing names now.things next are p in
          let may : may_cancel found.0.phase found.0.touch ≡ true =
          when_free (may_cancel found.0.phase found.0.touch)
          (record found.0 { touch = touch_after_cancel found.0.phase found.0.touch }) found.1 found.3 in
          none_is (cancel_fault context earlier thing id)
          ((follows context earlier thing id before).1
          ∙ sym (ap₂ (λ (p : Phase) (t : Touch). may_cancel p t) found.2.0 found.2.1)
          ∙ sym (cancel_so found.0.phase found.0.touch) ∙ may)
  act_well names now (Asking _ _ _) are off = tt
  act_well names now Closing are off = tt
  act_well names now Other are off = tt

-- so it is with commands
pub wells_on : (context : ActivationContext) (names : List ThingName) (earlier commands : List Command) (now : Situation)
    → are_distinct names ≡ true → are_covered names commands ≡ true → AreSo context earlier names now.things
    → AreWell context [] earlier → (after_commands names commands now).faulty ≡ false → AreWell context earlier commands
wells_on context names earlier [] now distinct there are before off = tt
wells_on context names earlier (command ∷ rest) now distinct there are before off =
    let parts : (is_covered names (act_of command) ≡ true) × (are_covered names rest ≡ true) =
    and_parts (is_covered names (act_of command)) (are_covered names rest) there in
    let well : IsWell context earlier (act_of command) =
    act_well context earlier before names now (act_of command) are
    (fault_stays names rest (after_act names (act_of command) now) off) in
    let here : Steps context earlier command before well names now (act_of command) =
    step context earlier command before well names now (act_of command) refl parts.0 distinct are in (
      well,
      wells_on context names (earlier ++ command ∷ []) rest (after_act names (act_of command) now) distinct parts.1 here.1
          (well_more context [] earlier command before well) off,
    )

pub wells : FaultsAreSeen
wells context names commands now distinct there are off =
    wells_on context names [] commands now distinct there are tt off
