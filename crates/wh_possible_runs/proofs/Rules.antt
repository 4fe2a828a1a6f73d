-- The state machine of a thing follows the rules.
use Rattle.std.proofs.Common.{◌≡◌, ℕ, Bool, true, false, not, ◌&&◌, ◌||◌, List, [], ◌∷◌, ◌++◌, refl, ap, ap₂, sym, subst, ◌∙◌, Option, Some, None}
use Rattle.std.specs.Prelude.{nat_eq, bytes_eq, is_none, is_some}
use Rattle.std.proofs.lemmas.Bool.{and_parts, and_from}
use Rattle.std.proofs.lemmas.Slice.Eq.{bytes_eq-Decides}
use Rattle.wh_events.specs.declared.place.Thing.{Thing}
use Rattle.wh_events.specs.declared.place.Thing.TheVariants as things
use Rattle.wh_events.specs.Machines.{same_thing, open_named, last_named, or_else}
use Rattle.wh_events.specs.Places.{fault_if}
use Rattle.wh_workflow.specs.declared.command.Command.{Command}
use Rattle.wh_workflow.specs.declared.fault.WorkflowFault.{WorkflowFault}
use Rattle.wh_workflow.specs.declared.fault.WorkflowFault.TheVariants.{IdInUse, IdReused, NotOpen, AlreadyCancelling}
use Rattle.wh_workflow.specs.Scripts.{ActivationContext, Act, act_of, act_opens, act_cancels, some_act, left_open, withdrawn, is_timer, open_at, has_outside, closer_of, cancels_open, opening_fault, cancel_fault}
use Rattle.wh_workflow.specs.Scripts.Act.{Opening, Cancelling, Asking, Closing, Other}
use Rattle.wh_possible_runs.specs.Rules.{phase_by, phase_at, touch_by, touch_at, touched, IsWell, AreWell, FollowsRules}
use Rattle.wh_possible_runs.specs.Shown.{same_bool, touch_number}
use Rattle.wh_possible_runs.specs.Things.{is_free, may_cancel}
use Rattle.wh_possible_runs.specs.declared.thing.Touch.{Touch}
use Rattle.wh_possible_runs.proofs.Sound.{bool_is, touch_is}

abbrev pub so : Bool → Bool → Bool
so if then = not if || then

-- what holds for each value of a test
pub both : (f : Bool → Bool) → (f true && f false) ≡ true → (b : Bool) → f b ≡ true
both f all true = (and_parts (f true) (f false) all).0
both f all false = (and_parts (f true) (f false) all).1

-- what the rules say, by what is so of the thing (a timer, open, asked to cancel, ended) and of the earlier commands
-- (one opens it, one cancels it, it is left open, it is withdrawn)
abbrev pub opens_well : Bool → Bool → Bool → Bool → Bool → Bool → Bool → Bool → Bool
opens_well timer here asked ended opened canceled left gone =
    not (left || (here && not (timer && canceled))) && not gone

abbrev pub cancels_well : Bool → Bool → Bool → Bool → Bool → Bool → Bool → Bool → Bool
cancels_well timer here asked ended opened canceled left gone =
    not (not (left || (here && not (timer && canceled))) && not (not here && (not opened && ended)))
    && not (not timer && (asked || (here && canceled)))

-- what is so after commands without a fault
abbrev pub is_sound : Bool → Bool → Bool → Bool → Bool → Bool → Bool → Bool → Bool
is_sound timer here asked ended opened canceled left gone =
    ((so asked here && not (left && gone)) && (so left opened && so gone (opened && canceled)))
    && ((so opened (left || gone) && so (here && opened) (timer && canceled))
    && so (not timer && asked) (not canceled && not opened))

abbrev same_touch : Touch → Touch → Bool
same_touch one other = nat_eq (touch_number one) (touch_number other)

abbrev says : Thing → Bool → Bool → Bool → Bool → Bool → Bool → Bool → Bool
says thing here asked ended opened canceled left gone =
    so (is_sound (is_timer thing) here asked ended opened canceled left gone)
    (same_bool (is_free thing (phase_by (is_timer thing) here asked ended) (touch_by here left gone canceled))
    (opens_well (is_timer thing) here asked ended opened canceled left gone)
    && same_bool (may_cancel (phase_by (is_timer thing) here asked ended) (touch_by here left gone canceled))
    (cancels_well (is_timer thing) here asked ended opened canceled left gone))

abbrev goes : Thing → Bool → Bool → Bool → Bool → Bool → Bool → Bool → Bool → Bool → Bool
goes thing here asked ended opened canceled left gone opens cancels =
    so (is_sound (is_timer thing) here asked ended opened canceled left gone
    && (so opens (opens_well (is_timer thing) here asked ended opened canceled left gone)
    && (so cancels (cancels_well (is_timer thing) here asked ended opened canceled left gone) && not (opens && cancels))))
    (is_sound (is_timer thing) here asked ended (opened || opens) (canceled || cancels) ((left && not cancels) || opens) (gone || (opened && cancels))
    && same_touch (touched (phase_by (is_timer thing) here asked ended) opens cancels (touch_by here left gone canceled))
    (touch_by here ((left && not cancels) || opens) (gone || (opened && cancels)) (canceled || cancels)))

abbrev pub two : (Bool → Bool) → Bool
two f = f true && f false

abbrev says_ever : Thing → Bool
says_ever thing =
    two (λ a. two (λ b. two (λ c. two (λ d. two (λ e. two (λ f. two (λ g. says thing a b c d e f g)))))))

abbrev goes_ever : Thing → Bool
goes_ever thing =
    two (λ a. two (λ b. two (λ c. two (λ d. two (λ e. two (λ f. two (λ g. two (λ h. two (λ i. goes thing a b c d e f g h i)))))))))

says_all : (thing : Thing) → says_ever thing ≡ true
says_all things.Activity = refl
says_all things.Timer = refl
says_all things.Child = refl
says_all things.CancelRequest = refl
says_all things.SignalRequest = refl

goes_all : (thing : Thing) → goes_ever thing ≡ true
goes_all things.Activity = refl
goes_all things.Timer = refl
goes_all things.Child = refl
goes_all things.CancelRequest = refl
goes_all things.SignalRequest = refl

pub says_so : (thing : Thing) (a b c d e f g : Bool) → says thing a b c d e f g ≡ true
says_so thing a b c d e f g =
    both (λ g. says thing a b c d e f g)
    (both (λ f. two (λ g. says thing a b c d e f g))
    (both (λ e. two (λ f. two (λ g. says thing a b c d e f g)))
    (both (λ d. two (λ e. two (λ f. two (λ g. says thing a b c d e f g))))
    (both (λ c. two (λ d. two (λ e. two (λ f. two (λ g. says thing a b c d e f g)))))
    (both (λ b. two (λ c. two (λ d. two (λ e. two (λ f. two (λ g. says thing a b c d e f g))))))
    (both (λ a. two (λ b. two (λ c. two (λ d. two (λ e. two (λ f. two (λ g. says thing a b c d e f g)))))))
    (says_all thing) a) b) c) d) e) f) g

goes_so : (thing : Thing) (a b c d e f g h i : Bool) → goes thing a b c d e f g h i ≡ true
goes_so thing a b c d e f g h i =
    both (λ i. goes thing a b c d e f g h i)
    (both (λ h. two (λ i. goes thing a b c d e f g h i))
    (both (λ g. two (λ h. two (λ i. goes thing a b c d e f g h i)))
    (both (λ f. two (λ g. two (λ h. two (λ i. goes thing a b c d e f g h i))))
    (both (λ e. two (λ f. two (λ g. two (λ h. two (λ i. goes thing a b c d e f g h i)))))
    (both (λ d. two (λ e. two (λ f. two (λ g. two (λ h. two (λ i. goes thing a b c d e f g h i))))))
    (both (λ c. two (λ d. two (λ e. two (λ f. two (λ g. two (λ h. two (λ i. goes thing a b c d e f g h i)))))))
    (both (λ b. two (λ c. two (λ d. two (λ e. two (λ f. two (λ g. two (λ h. two (λ i. goes thing a b c d e f g h i))))))))
    (both (λ a. two (λ b. two (λ c. two (λ d. two (λ e. two (λ f. two (λ g. two (λ h. two (λ i. goes thing a b c d e f g h i)))))))))
    (goes_all thing) a) b) c) d) e) f) g) h) i

pub so_then : (if then : Bool) → so if then ≡ true → if ≡ true → then ≡ true
so_then true then all is = all
so_then false then all is = cc

-- one more command

pub some_more : (test : Act → Bool) (earlier : List Command) (command : Command)
    → some_act test (earlier ++ command ∷ []) ≡ (some_act test earlier || test (act_of command))
some_more test [] command = by (test (act_of command))
  where
    by : (t : Bool) → (t || false) ≡ (false || t)
    by true = refl
    by false = refl
some_more test (one ∷ rest) command =
    ap (λ t. test (act_of one) || t) (some_more test rest command)
    ∙ by (test (act_of one)) (some_act test rest) (test (act_of command))
  where
    by : (a b c : Bool) → (a || (b || c)) ≡ ((a || b) || c)
    by true b c = refl
    by false b c = refl

module _ (thing : Thing) (id : List ℕ) where
  pub left_more : (earlier : List Command) (command : Command)
      → left_open thing id (earlier ++ command ∷ [])
      ≡ ((left_open thing id earlier && not (act_cancels thing id (act_of command))) || act_opens thing id (act_of command))
  left_more [] command = by (act_opens thing id (act_of command))
    where
      by : (t : Bool) → (false || (t && not false)) ≡ t
      by true = refl
      by false = refl
  left_more (one ∷ rest) command =
      ap₂ (λ (l s : Bool). l || (act_opens thing id (act_of one) && not s)) (left_more rest command)
      (some_more (act_cancels thing id) rest command)
      ∙ by (left_open thing id rest) (act_cancels thing id (act_of command)) (act_opens thing id (act_of command))
      (act_opens thing id (act_of one)) (some_act (act_cancels thing id) rest)
    where
      by : (l c o x s : Bool) → (((l && not c) || o) || (x && not (s || c))) ≡ (((l || (x && not s)) && not c) || o)
      by true false o x s = refl
      by true true true x s = refl
      by true true false true true = refl
      by true true false true false = refl
      by true true false false s = refl
      by false c true x s = by_last c x s
        where
          by_last : (c x s : Bool) → true ≡ (((x && not s) && not c) || true)
          by_last true true true = refl
          by_last true true false = refl
          by_last true false s = refl
          by_last false true true = refl
          by_last false true false = refl
          by_last false false s = refl
      by false true false true true = refl
      by false true false true false = refl
      by false true false false s = refl
      by false false false true true = refl
      by false false false true false = refl
      by false false false false s = refl

  pub gone_more : (earlier : List Command) (command : Command)
      → withdrawn thing id (earlier ++ command ∷ [])
      ≡ (withdrawn thing id earlier || (some_act (act_opens thing id) earlier && act_cancels thing id (act_of command)))
  gone_more [] command = by (act_opens thing id (act_of command))
    where
      by : (t : Bool) → ((t && false) || false) ≡ (false || (false && act_cancels thing id (act_of command)))
      by true = refl
      by false = refl
  gone_more (one ∷ rest) command =
      ap₂ (λ (s w : Bool). (act_opens thing id (act_of one) && s) || w) (some_more (act_cancels thing id) rest command)
      (gone_more rest command)
      ∙ by (act_opens thing id (act_of one)) (some_act (act_cancels thing id) rest) (act_cancels thing id (act_of command))
      (withdrawn thing id rest) (some_act (act_opens thing id) rest)
    where
      by : (x s c w o : Bool) → ((x && (s || c)) || (w || (o && c))) ≡ (((x && s) || w) || ((x || o) && c))
      by true true c w o = refl
      by true false true true o = refl
      by true false true false o = refl
      by true false false true o = refl
      by true false false false true = refl
      by true false false false false = refl
      by false s c w o = refl

module _ (context : ActivationContext) (thing : Thing) (id : List ℕ) where
  abbrev pub asked : Bool
  asked = cancels_open context (open_named context.seen thing id)

  abbrev pub ended : Bool
  ended = has_outside (closer_of context.seen (last_named context.seen thing id)) context.between

  -- after commands without a fault
  abbrev pub Sound : List Command → Type 0
  Sound earlier =
      is_sound (is_timer thing) (open_at context thing id) asked ended (some_act (act_opens thing id) earlier)
      (some_act (act_cancels thing id) earlier) (left_open thing id earlier) (withdrawn thing id earlier) ≡ true

  abbrev pub well_opened : List Command → Bool
  well_opened earlier =
      opens_well (is_timer thing) (open_at context thing id) asked ended (some_act (act_opens thing id) earlier)
      (some_act (act_cancels thing id) earlier) (left_open thing id earlier) (withdrawn thing id earlier)

  abbrev pub well_canceled : List Command → Bool
  well_canceled earlier =
      cancels_well (is_timer thing) (open_at context thing id) asked ended (some_act (act_opens thing id) earlier)
      (some_act (act_cancels thing id) earlier) (left_open thing id earlier) (withdrawn thing id earlier)

  no_faults : (a b : Bool) (one other : WorkflowFault) → is_none (or_else (fault_if a one) (fault_if b other)) ≡ (not a && not b)
  no_faults true b one other = refl
  no_faults false true one other = refl
  no_faults false false one other = refl

  opens_is : (earlier : List Command) → is_none (opening_fault context earlier thing id) ≡ well_opened earlier
  unfolding opening_fault
  opens_is earlier =
      no_faults (left_open thing id earlier || (open_at context thing id && not (is_timer thing && some_act (act_cancels thing id) earlier)))
      (withdrawn thing id earlier) IdInUse IdReused

  cancels_is : (earlier : List Command) → is_none (cancel_fault context earlier thing id) ≡ well_canceled earlier
  unfolding cancel_fault
  cancels_is earlier =
      no_faults
      (not (left_open thing id earlier || (open_at context thing id && not (is_timer thing && some_act (act_cancels thing id) earlier)))
      && not (not (open_at context thing id) && (not (some_act (act_opens thing id) earlier) && ended)))
      (not (is_timer thing) && (asked || (open_at context thing id && some_act (act_cancels thing id) earlier)))
      NotOpen AlreadyCancelling

  pub sound_first : Sound []
  sound_first = by (is_timer thing) (open_named context.seen thing id)
    where
      by : (t : Bool) (found : Option ℕ)
          → is_sound t (is_some found) (cancels_open context found) ended false false false false ≡ true
      by t None = at_none t
        where
          at_none : (t : Bool) → is_sound t false false ended false false false false ≡ true
          at_none true = refl
          at_none false = refl
      by t (Some number) = at_some t (cancels_open context (Some number))
        where
          at_some : (t k : Bool) → is_sound t true k ended false false false false ≡ true
          at_some true true = refl
          at_some true false = refl
          at_some false true = refl
          at_some false false = refl

  -- a command without a fault does nothing wrong with the thing
  abbrev pub Right : List Command → Act → Type 0
  Right earlier act =
      (so (act_opens thing id act) (well_opened earlier) ≡ true)
      × (so (act_cancels thing id act) (well_canceled earlier) ≡ true)
      × (not (act_opens thing id act && act_cancels thing id act) ≡ true)

pub things_are : (one other : Thing) → same_thing one other ≡ true → one ≡ other
things_are things.Activity things.Activity is = refl
things_are things.Timer things.Timer is = refl
things_are things.Child things.Child is = refl
things_are things.CancelRequest things.CancelRequest is = refl
things_are things.SignalRequest things.SignalRequest is = refl
things_are _ _ is = cc

pub or_none : (x y : Option WorkflowFault) → or_else x y ≡ None → y ≡ None
or_none None y none = none
or_none (Some fault) y none = cc

pub or_first : (x y : Option WorkflowFault) → or_else x y ≡ None → x ≡ None
or_first None y none = refl
or_first (Some fault) y none = cc

pub append_one : (earlier : List Command) (one : Command) (rest : List Command)
    → (earlier ++ one ∷ []) ++ rest ≡ earlier ++ one ∷ rest
append_one [] one rest = refl
append_one (first ∷ earlier) one rest = ap (λ (list : List Command). first ∷ list) (append_one earlier one rest)

pub append_none : (list : List Command) → list ++ [] ≡ list
append_none [] = refl
append_none (one ∷ rest) = ap (λ (list : List Command). one ∷ list) (append_none rest)

module _ (context : ActivationContext) (thing : Thing) (id : List ℕ) where
  pub right : (earlier : List Command) (act : Act) → IsWell context earlier act
      → Right context thing id earlier act
  right earlier (Opening other other_id) none =
      by (same_thing thing other && bytes_eq id other_id) refl
    where
      by : (t : Bool) → (same_thing thing other && bytes_eq id other_id) ≡ t
          → (so t (well_opened context thing id earlier) ≡ true)
          × (so false (well_canceled context thing id earlier) ≡ true) × (not (t && false) ≡ true)
      by false p = (refl, refl, refl)
      by true p =
          let parts : (same_thing thing other ≡ true) × (bytes_eq id other_id ≡ true) = and_parts (same_thing thing other) (bytes_eq id other_id) p in
          let t : thing ≡ other = things_are thing other parts.0 in
          let i : id ≡ other_id = (bytes_eq-Decides id other_id).0 parts.1 in
          let none_here : opening_fault context earlier thing id ≡ None =
          subst (λ text. opening_fault context earlier thing text ≡ None) (sym i)
          (subst (λ kind. opening_fault context earlier kind other_id ≡ None) (sym t) none) in (
            sym (opens_is context thing id earlier) ∙ ap (λ (x : Option WorkflowFault). is_none x) none_here,
            refl,
            refl,
          )
  right earlier (Cancelling other other_id) none =
      by (same_thing thing other && bytes_eq id other_id) refl
    where
      by : (t : Bool) → (same_thing thing other && bytes_eq id other_id) ≡ t
          → (so false (well_opened context thing id earlier) ≡ true)
          × (so t (well_canceled context thing id earlier) ≡ true) × (not (false && t) ≡ true)
      by false p = (refl, refl, refl)
      by true p =
          let parts : (same_thing thing other ≡ true) × (bytes_eq id other_id ≡ true) = and_parts (same_thing thing other) (bytes_eq id other_id) p in
          let t : thing ≡ other = things_are thing other parts.0 in
          let i : id ≡ other_id = (bytes_eq-Decides id other_id).0 parts.1 in
          let none_here : cancel_fault context earlier thing id ≡ None =
          subst (λ text. cancel_fault context earlier thing text ≡ None) (sym i)
          (subst (λ kind. cancel_fault context earlier kind other_id ≡ None) (sym t) none) in (
            refl,
            sym (cancels_is context thing id earlier) ∙ ap (λ (x : Option WorkflowFault). is_none x) none_here,
            refl,
          )
  right earlier Closing none = (refl, refl, refl)
  right earlier (Asking _ _ _) none = (refl, refl, refl)
  right earlier Other none = (refl, refl, refl)

  abbrev pub Goes : List Command → Command → Type 0
  Goes earlier command =
      Sound context thing id (earlier ++ command ∷ [])
      × (touch_at context (earlier ++ command ∷ []) thing id
      ≡ touched (phase_at context thing id) (act_opens thing id (act_of command)) (act_cancels thing id (act_of command))
      (touch_at context earlier thing id))

  pub goes_on : (earlier : List Command) (command : Command) → Sound context thing id earlier
      → IsWell context earlier (act_of command) → Goes earlier command
  goes_on earlier command sound well =
      let act : Act = act_of command in
      let fine : Right context thing id earlier (act_of command) = right earlier (act_of command) well in
      let o : Bool = act_opens thing id (act_of command) in
      let c : Bool = act_cancels thing id (act_of command) in
      let opened : Bool = some_act (act_opens thing id) earlier in
      let canceled : Bool = some_act (act_cancels thing id) earlier in
      let left : Bool = left_open thing id earlier in
      let gone : Bool = withdrawn thing id earlier in
      let all =
      so_then
      (is_sound (is_timer thing) (open_at context thing id) (asked context thing id) (ended context thing id) opened canceled left gone
      && (so o (well_opened context thing id earlier) && (so c (well_canceled context thing id earlier) && not (o && c))))
      (is_sound (is_timer thing) (open_at context thing id) (asked context thing id) (ended context thing id) (opened || o) (canceled || c) ((left && not c) || o) (gone || (opened && c))
      && same_touch (touched (phase_at context thing id) o c (touch_at context earlier thing id))
      (touch_by (open_at context thing id) ((left && not c) || o) (gone || (opened && c)) (canceled || c)))
      (goes_so thing (open_at context thing id) (asked context thing id) (ended context thing id) opened canceled left gone o c)
      (and_from _ _ sound (and_from _ _ fine.0 (and_from _ _ fine.1 fine.2))) in
      let parts =
      and_parts
      (is_sound (is_timer thing) (open_at context thing id) (asked context thing id) (ended context thing id) (opened || o) (canceled || c) ((left && not c) || o) (gone || (opened && c)))
      (same_touch (touched (phase_at context thing id) o c (touch_at context earlier thing id))
      (touch_by (open_at context thing id) ((left && not c) || o) (gone || (opened && c)) (canceled || c))) all in
      rw (
        some_more (act_opens thing id) earlier command,
        some_more (act_cancels thing id) earlier command,
        left_more thing id earlier command,
        gone_more thing id earlier command,
      )
      (parts.0, touch_is _ _ parts.1)

  pub sound_on : (earlier rest : List Command) → Sound context thing id earlier → AreWell context earlier rest
      → Sound context thing id (earlier ++ rest)
  sound_on earlier [] sound wells = subst (λ list. Sound context thing id list) (sym (append_none earlier)) sound
  sound_on earlier (one ∷ rest) sound wells =
      subst (λ list. Sound context thing id list) (append_one earlier one rest)
      (sound_on (earlier ++ one ∷ []) rest (goes_on earlier one sound wells.0).0 wells.1)

pub follows : FollowsRules
follows context earlier thing id wells =
    let sound : Sound context thing id earlier = sound_on context thing id [] earlier (sound_first context thing id) wells in
    let all =
    so_then _ _
    (says_so thing (open_at context thing id) (asked context thing id) (ended context thing id) (some_act (act_opens thing id) earlier)
    (some_act (act_cancels thing id) earlier) (left_open thing id earlier) (withdrawn thing id earlier)) sound in
    let parts =
    and_parts
    (same_bool (is_free thing (phase_at context thing id) (touch_at context earlier thing id)) (well_opened context thing id earlier))
    (same_bool (may_cancel (phase_at context thing id) (touch_at context earlier thing id)) (well_canceled context thing id earlier)) all in (
      opens_is context thing id earlier
          ∙ bool_is (is_free thing (phase_at context thing id) (touch_at context earlier thing id)) (well_opened context thing id earlier) parts.0,
      cancels_is context thing id earlier
          ∙ bool_is (may_cancel (phase_at context thing id) (touch_at context earlier thing id)) (well_canceled context thing id earlier) parts.1,
      λ command well. (goes_on context thing id earlier command sound well).1,
    )
