-- A recorded event does to a thing what the command does that it is named like.
use Rattle.std.proofs.Common.{◌≡◌, ℕ, ◌-◌, ◌<◌, ◌≤◌, ◌⊎◌, Bool, true, false, not, ◌&&◌, ◌||◌, cond, eqb, ltb, List, [], ◌∷◌, ◌++◌, length, Option, Some, None, is_none, slice_get, refl, sym, ap, ap₂, ◌∙◌, inl, inr, arith}
use Rattle.std.specs.Prelude.{bytes_eq}
use Rattle.std.proofs.lemmas.Bool.{eq-eqb, ne_eqb, both_ways, and_parts, and_from}
use Rattle.std.proofs.lemmas.Bool.Decides.{nat_tests}
use Rattle.std.proofs.lemmas.Slice.Eq.{bytes_eq-Decides}
use Rattle.wh_events.specs.declared.event.Event.{Event}
use Rattle.wh_events.specs.declared.kind.EventKind.{EventKind}
use Rattle.wh_events.specs.declared.kind.EventKind.TheVariants as kinds
use Rattle.wh_events.specs.declared.place.Thing.{Thing}
use Rattle.wh_events.specs.declared.place.Thing.TheVariants as things
use Rattle.wh_events.specs.Kinds.{Role, role_of}
use Rattle.wh_events.specs.Kinds.Role.{Opens, Refers, CancelsChild, Plain}
use Rattle.wh_events.specs.InPlace.{InPlace}
use Rattle.wh_events.specs.Machines.{same_thing, opened_thing, opened_id, opens_under, closes_number, is_open, open_named, last_named, is_number, cancels_number, role_at, role_in}
use Rattle.wh_events.specs.Places.{fault_after, is_named, is_thing, role_fault}
use Rattle.wh_events.proofs.Placing.{same_decides, open_decides}
use Rattle.wh_events.proofs.Standing.{no_fault_where_in_place}
use Rattle.wh_events.proofs.Naming.{open_unclosed}
use Rattle.wh_machines.proofs.Placed.{child_there, numbered_after}
use Rattle.wh_machines.proofs.Named.{last_named_role}
use Rattle.wh_machines.proofs.OpenNamed.{open_if, open_named_last}
use Rattle.wh_machines.proofs.Jumping.{slice_get-append_left}
use Rattle.wh_workflow.specs.declared.command.Command.{Command}
use Rattle.wh_workflow.specs.declared.command.Command.TheVariants as commands
use Rattle.wh_workflow.specs.Jobs.{id_at}
use Rattle.wh_workflow.specs.Names.{names}
use Rattle.wh_workflow.specs.Scripts.{act_of, act_opens, act_cancels, is_timer}
use Rattle.wh_possible_histories.proofs.Pushed.{some_test, Reference, reference}

no_request : (thing : Thing) (rest : Bool) → is_named thing ≡ true → false ≡ (same_thing thing things.SignalRequest && rest)
no_request things.Activity rest named = refl
no_request things.Timer rest named = refl
no_request things.Child rest named = refl
no_request things.CancelRequest rest named = cc
no_request things.SignalRequest rest named = cc

pub same_text : (a b : List ℕ) → bytes_eq a b ≡ true → a ≡ b
same_text a b is = (bytes_eq-Decides a b).0 is

-- a command and an event that are named alike open the same
pub opens_alike : (thing : Thing) (id : List ℕ) (history : List Event) (command : Command) (body : EventKind)
    → is_named thing ≡ true → names history command body ≡ true
    → act_opens thing id (act_of command) ≡ opens_under thing id (role_of body)
opens_alike thing id history (commands.StartActivity a b _) (kinds.ActivityTaskScheduled c d) named is =
    ap (λ text. same_thing thing things.Activity && bytes_eq id text) (same_text a c (and_parts (bytes_eq a c) (bytes_eq b d) is).0)
opens_alike thing id history (commands.StartTimer a _) (kinds.TimerStarted c) named is =
    ap (λ text. same_thing thing things.Timer && bytes_eq id text) (same_text a c is)
opens_alike thing id history (commands.StartChild a b _) (kinds.StartChildWorkflowExecutionInitiated c d) named is =
    ap (λ text. same_thing thing things.Child && bytes_eq id text) (same_text a c (and_parts (bytes_eq a c) (bytes_eq b d) is).0)
opens_alike thing id history (commands.CancelActivity _) (kinds.ActivityTaskCancelRequested _) named is = refl
opens_alike thing id history (commands.CancelTimer _) (kinds.TimerCanceled _) named is = refl
opens_alike thing id history (commands.CancelChild _) (kinds.RequestCancelExternalWorkflowExecutionInitiated _) named is = refl
opens_alike thing id history (commands.SignalExternal _ _ _) (kinds.SignalExternalWorkflowExecutionInitiated c _) named is =
    no_request thing (bytes_eq id c) named
opens_alike thing id history (commands.Marker _ _) (kinds.MarkerRecorded _ _) named is = refl
opens_alike thing id history (commands.Complete _) kinds.WorkflowExecutionCompleted named is = refl
opens_alike thing id history (commands.Fail _) kinds.WorkflowExecutionFailed named is = refl
opens_alike thing id history commands.Cancel kinds.WorkflowExecutionCanceled named is = refl
opens_alike thing id history (commands.ContinueAsNew _ _) kinds.WorkflowExecutionContinuedAsNew named is = refl
opens_alike thing id history _ _ named is = cc

pub within : (events : List Event) (number : ℕ) → (eqb number 0 || ltb (length events) number) ≡ false
    → (0 < number) × (number ≤ length events)
within events number there = (grind (arith, nat_tests), grind (arith, nat_tests))

opens_of : (thing : Thing) (role : Role) → (thing ≡ things.Activity) ⊎ (thing ≡ things.Timer)
    → is_thing thing (opened_thing role) ≡ true → role ≡ Opens thing (opened_id role)
opens_of thing (Opens other id) which is =
    ap (λ kind. Opens kind id) (sym ((same_decides thing other).0 is))
opens_of thing (CancelsChild id) (inl which) is = absurd (both_ways true (sym is ∙ ap (λ kind. same_thing kind things.CancelRequest) which) refl)
opens_of thing (CancelsChild id) (inr which) is = absurd (both_ways true (sym is ∙ ap (λ kind. same_thing kind things.CancelRequest) which) refl)
opens_of thing (Refers _ _ _) which is = cc
opens_of thing Plain which is = cc

opening_at : (found : Option Event) (thing : Thing) (id : List ℕ) → role_in found ≡ Opens thing id
    → (event : Event) × (found ≡ Some event) × (role_of event.body ≡ Opens thing id)
opening_at None thing id is = cc
opening_at (Some event) thing id is = (event, refl, is)

history_placed : (now : List Event) → 0 < length now → fault_after [] now ≡ None → InPlace now
history_placed [] some placed = absurd (omega arith)
history_placed (event ∷ rest) some placed = ((no_fault_where_in_place (event ∷ rest)).0 placed).0

if_last : (now : List Event) (last : Option ℕ) (number : ℕ) → open_if now last ≡ Some number → last ≡ Some number
if_last now None number is = cc
if_last now (Some other) number is = by (is_open now other) is
  where
    by : (b : Bool) → cond b (Some other) None ≡ Some number → Some other ≡ Some number
    by true is = is
    by false is = cc

module _ (thing : Thing) (id : List ℕ) (now : List Event) (named : is_named thing ≡ true)
    (placed : fault_after [] now ≡ None) where
  -- what the event of the number opens under the name, if it is open, is the last such thing
  last_open : (number : ℕ) → 0 < number → number ≤ length now → role_at now number ≡ Opens thing id
      → is_open now number ≡ true → last_named now thing id ≡ Some number
  last_open number low high role is =
      let found = opening_at (slice_get now (number - 1)) thing id role in
      let here : open_named now thing id ≡ Some number =
      (open_unclosed now (history_placed now (omega arith) placed) thing id number named).1
      (found.0, (low, found.1), found.2, (open_decides now number).0 is) in
      if_last now (last_named now thing id) number (sym (open_named_last thing id now named placed) ∙ here)

  -- the number is that of the last such thing exactly if it was opened under the name
  pub hit : (number : ℕ) (other : Thing) (other_id : List ℕ) → 0 < number → number ≤ length now
      → role_at now number ≡ Opens other other_id → is_open now number ≡ true
      → some_test (λ n. eqb n number) (last_named now thing id) ≡ (same_thing thing other && bytes_eq id other_id)
  hit number other other_id low high role is = by (same_thing thing other && bytes_eq id other_id) refl
    where
      none : (last : Option ℕ) → last_named now thing id ≡ last → (same_thing thing other && bytes_eq id other_id) ≡ false
          → some_test (λ n. eqb n number) last ≡ false
      none None last off = refl
      none (Some n) last off =
          ne_eqb n number (λ same.
          let there : role_at now n ≡ Opens thing id = (last_named_role thing id n now (numbered_after [] now placed) last).2 in
          let both : Opens thing id ≡ Opens other other_id = sym there ∙ ap (role_at now) same ∙ role in
          both_ways (same_thing thing other && bytes_eq id other_id) off
          (and_from _ _ ((same_decides thing other).1 (cc)) ((bytes_eq-Decides id other_id).1 (cc))))

      by : (t : Bool) → (same_thing thing other && bytes_eq id other_id) ≡ t
          → some_test (λ n. eqb n number) (last_named now thing id) ≡ t
      by true p =
          let parts = and_parts (same_thing thing other) (bytes_eq id other_id) p in
          let mine : role_at now number ≡ Opens thing id =
          role ∙ ap (λ kind. Opens kind other_id) (sym ((same_decides thing other).0 parts.0))
          ∙ ap (λ text. Opens thing text) (sym (same_text id other_id parts.1)) in
          ap (λ (o : Option ℕ). some_test (λ n. eqb n number) o) (last_open number low high mine is) ∙ eq-eqb number number refl
      by false p = none (last_named now thing id) refl p

  never : (last : Option ℕ) → some_test (λ n. false) last ≡ false
  never None = refl
  never (Some n) = refl

  neither : (last : Option ℕ) → false ≡ (some_test (λ n. false) last || (not (is_timer thing) && some_test (λ n. false) last))
  neither last = sym (rw (never last) (by (is_timer thing)))
    where
      by : (t : Bool) → (false || (not t && false)) ≡ false
      by true = refl
      by false = refl

  -- the event that a command cancels by number was opened under its id
  id_is : (more : List Event) (kind : Thing) (number : ℕ) (text : List ℕ) → (kind ≡ things.Activity) ⊎ (kind ≡ things.Timer)
      → Reference now kind number → bytes_eq text (id_at (now ++ more) number) ≡ true → role_at now number ≡ Opens kind text
  id_is more kind number text which there is =
      let low = within now number there.there in
      let same : role_at (now ++ more) number ≡ role_at now number =
      ap (λ (o : Option Event). role_in o) (slice_get-append_left now more (number - 1) (omega (arith, low.0, low.1))) in
      opens_of kind (role_at now number) which there.kind
      ∙ ap (λ id. Opens kind id) (ap opened_id (sym same) ∙ sym (same_text text (id_at (now ++ more) number) is))

  -- a command and an event that are named alike cancel the same
  pub cancels_alike : (more : List Event) (command : Command) (body : EventKind) → names (now ++ more) command body ≡ true
      → role_fault now (role_of body) ≡ None
      → act_cancels thing id (act_of command)
      ≡ (some_test (λ n. closes_number n (role_of body)) (last_named now thing id)
      || (not (is_timer thing) && some_test (λ n. cancels_number now n (role_of body)) (last_named now thing id)))
  cancels_alike more (commands.CancelActivity a) (kinds.ActivityTaskCancelRequested number) is fits =
      let there : Reference now things.Activity number = reference now things.Activity number fits in
      let low = within now number there.there in
      sym (ap₂ (λ (x y : Bool). x || (not (is_timer thing) && y)) (never (last_named now thing id))
      (hit number things.Activity a low.0 low.1 (id_is more things.Activity number a (inl refl) there is) there.found)
      ∙ by thing (bytes_eq id a))
    where
      by : (thing : Thing) (b : Bool) → (false || (not (is_timer thing) && (same_thing thing things.Activity && b))) ≡ (same_thing thing things.Activity && b)
      by things.Activity b = refl
      by things.Timer b = refl
      by things.Child b = refl
      by things.CancelRequest b = refl
      by things.SignalRequest b = refl
  cancels_alike more (commands.CancelTimer a) (kinds.TimerCanceled number) is fits =
      let there : Reference now things.Timer number = reference now things.Timer number fits in
      let low = within now number there.there in
      sym (ap₂ (λ (x y : Bool). x || (not (is_timer thing) && y))
      (hit number things.Timer a low.0 low.1 (id_is more things.Timer number a (inr refl) there is) there.found)
      (never (last_named now thing id)) ∙ by (is_timer thing) (same_thing thing things.Timer && bytes_eq id a))
    where
      by : (t b : Bool) → (b || (not t && false)) ≡ b
      by true true = refl
      by true false = refl
      by false true = refl
      by false false = refl
  cancels_alike more (commands.CancelChild a) (kinds.RequestCancelExternalWorkflowExecutionInitiated b) is fits =
      by_open (open_named now things.Child b) refl (child_there now b fits)
    where
      by : (thing : Thing) (b : Bool) → (false || (not (is_timer thing) && (same_thing thing things.Child && b))) ≡ (same_thing thing things.Child && b)
      by things.Activity b = refl
      by things.Timer b = refl
      by things.Child b = refl
      by things.CancelRequest b = refl
      by things.SignalRequest b = refl

      by_open : (found : Option ℕ) → open_named now things.Child b ≡ found → is_none found ≡ false
          → (same_thing thing things.Child && bytes_eq id a)
          ≡ (some_test (λ n. false) (last_named now thing id)
          || (not (is_timer thing) && some_test (λ n. is_number n found) (last_named now thing id)))
      by_open None p there = cc
      by_open (Some number) p there =
          let last : open_if now (last_named now things.Child b) ≡ Some number = sym (open_named_last things.Child b now refl placed) ∙ p in
          let named_last : last_named now things.Child b ≡ Some number = if_last now (last_named now things.Child b) number last in
          let role = last_named_role things.Child b number now (numbered_after [] now placed) named_last in
          let unclosed : is_open now number ≡ true = chosen (is_open now number) (sym (ap (open_if now) named_last) ∙ last) in
          sym (ap₂ (λ (x y : Bool). x || (not (is_timer thing) && y)) (never (last_named now thing id))
          (hit number things.Child b role.0 role.1 role.2 unclosed)
          ∙ by thing (bytes_eq id b)
          ∙ ap (λ text. same_thing thing things.Child && bytes_eq id text) (sym (same_text a b is)))
        where
          chosen : (t : Bool) → cond t (Some number) None ≡ Some number → t ≡ true
          chosen true is = refl
          chosen false is = cc
  cancels_alike more (commands.StartActivity _ _ _) (kinds.ActivityTaskScheduled _ _) is fits = neither (last_named now thing id)
  cancels_alike more (commands.StartTimer _ _) (kinds.TimerStarted _) is fits = neither (last_named now thing id)
  cancels_alike more (commands.StartChild _ _ _) (kinds.StartChildWorkflowExecutionInitiated _ _) is fits = neither (last_named now thing id)
  cancels_alike more (commands.SignalExternal _ _ _) (kinds.SignalExternalWorkflowExecutionInitiated _ _) is fits = neither (last_named now thing id)
  cancels_alike more (commands.Marker _ _) (kinds.MarkerRecorded _ _) is fits = neither (last_named now thing id)
  cancels_alike more (commands.Complete _) kinds.WorkflowExecutionCompleted is fits = neither (last_named now thing id)
  cancels_alike more (commands.Fail _) kinds.WorkflowExecutionFailed is fits = neither (last_named now thing id)
  cancels_alike more commands.Cancel kinds.WorkflowExecutionCanceled is fits = neither (last_named now thing id)
  cancels_alike more (commands.ContinueAsNew _ _) kinds.WorkflowExecutionContinuedAsNew is fits = neither (last_named now thing id)
  cancels_alike more _ _ is fits = cc
