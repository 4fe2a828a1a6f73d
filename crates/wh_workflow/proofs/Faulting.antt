-- The fault of a command is the least row of the table that applies to it.
use Rattle.std.proofs.Common.{slice_get, ◌≡◌, ℕ, zero, suc, ◌+◌, ◌⊎◌, Bool, true, false, not, ◌&&◌, ◌||◌, List, [], ◌∷◌, ◌++◌, length, Option, Some, None, refl, sym, ap, subst, ◌∙◌, inl, inr, arith, eqb, leb, is_some, bytes_eq, IsTrue, T, ℤ, pos, negsuc}
use Rattle.std.specs.Prelude.{int_lt, ◌<ℤ◌}
use Rattle.std.specs.Int.Signed.{lt_z_yes}
use Rattle.std.specs.Bool.{Decides}
use Rattle.std.proofs.lemmas.Bool.Decides.{Decides-eqb, Decides-not, Decides-and, Decides-or, Decides-like}
use Rattle.std.proofs.lemmas.Slice.Eq.{bytes_eq-Decides}
use Rattle.wh_events.specs.declared.event.Event.{Event}
use Rattle.wh_events.specs.declared.place.Status.TheVariants.{Cancelling as CancellingStatus, Closed}
use Rattle.wh_events.specs.declared.place.Thing.{Thing}
use Rattle.wh_events.specs.declared.place.Thing.TheVariants.{Activity, Timer, Child, CancelRequest, SignalRequest}
use Rattle.wh_events.specs.Cuts.{is_outside}
use Rattle.wh_events.specs.Machines.{same_thing, open_named, last_named, closes, closed_by, is_cancelling, is_started, status_by, or_else}
use Rattle.wh_events.specs.InPlace.{InPlace, IsAt, HasOpen}
use Rattle.wh_events.specs.Places.{is_named}
use Rattle.wh_events.proofs.Placing.{or_cases, or_left, or_right, leb_decides, same_decides, has_decides, closed_decides, some_decides, at_index, index_of}
use Rattle.wh_events.proofs.Standing.{same_event}
use Rattle.wh_events.proofs.Saying.{some_or_none, status_is_said}
use Rattle.wh_events.proofs.Naming.{open_unclosed, last_last}
use Rattle.wh_workflow.specs.declared.command.Command.{Command}
use Rattle.wh_workflow.specs.declared.command.Command.TheVariants.{CancelActivity, CancelTimer, CancelChild}
use Rattle.wh_workflow.specs.declared.fault.WorkflowFault.{WorkflowFault}
use Rattle.wh_workflow.specs.declared.fault.WorkflowFault.TheVariants.{AfterClosing, TooManyCommands, IdInUse, IdReused, NotOpen, AlreadyCancelling, BadRange, VersionOutOfRange, UnknownWorkflow}
use Rattle.wh_workflow.specs.Scripts.{ActivationContext, Settled, Act, act_of, act_opens, act_cancels, act_closes, some_act, left_open, withdrawn, is_timer, open_at, still_open, has_outside, closer_of, is_late, cancels_open, is_canceled, choice_of, fault_if, opening_fault, cancel_fault, ask_fault, act_fault, given, most_commands, command_fault}
use Rattle.wh_workflow.specs.Scripts.Act.{Opening, Cancelling, Closing, Asking, Other}
use Rattle.wh_workflow.specs.CommandFaults.{IsOfCut, Does, IsLeftOpen, IsWithdrawn, IsStillOpen, IsEndedHere, IsLateCancel, IsCancellingAtCut, UsesId, ReusesId, CancelsNothing, CancelsAgain, AsksBadRange, GetsOutOfRange, RowApplies, row_of, LeastRowDecides}
use Rattle.wh_events.specs.Rows.{IsLeastOrNone}
use Rattle.wh_events.proofs.Rows.{first_row, first_row_is_least}

-- a test whether one of the commands, with those after it, passes another
module _ (p : Command → List Command → Bool) (f : List Command → Bool) (none : f [] ≡ false) (one : (x : Command) (rest : List Command) → f (x ∷ rest) ≡ (p x rest || f rest)) where
  split_found : (xs : List Command) → f xs ≡ true → (before : List Command) × (x : Command) × (after : List Command) × (xs ≡ before ++ x ∷ after) × (p x after ≡ true)
  split_found [] h = cc
  split_found (x ∷ xs) h =
      elim (or_cases (p x xs) (f xs) (sym (one x xs) ∙ h)) [
        | inl here ↦ ([], x, xs, refl, here)
        | inr there ↦ let r = split_found xs there in (x ∷ r.0, r.1, r.2, ap (λ l. x ∷ l) r.3, r.4)
      ]

  split_passes : (before : List Command) (x : Command) (after : List Command) → p x after ≡ true → f (before ++ x ∷ after) ≡ true
  split_passes [] x after h = one x after ∙ or_left (p x after) (f after) h
  split_passes (y ∷ before) x after h = one y (before ++ x ∷ after) ∙ or_right (p y (before ++ x ∷ after)) (f (before ++ x ∷ after)) (split_passes before x after h)

  pub split_decides : (xs : List Command) → Decides (f xs) ((before : List Command) × (x : Command) × (after : List Command) × (xs ≡ before ++ x ∷ after) × (p x after ≡ true))
  split_decides xs = (split_found xs, λ r. ap f r.3 ∙ split_passes r.0 r.1 r.2 r.4)

pub opens_decides : (thing : Thing) (id : List ℕ) (act : Act) → Decides (act_opens thing id act) (act ≡ Opening thing id)
opens_decides thing id (Opening other other_id) =
    Decides-like (same_thing thing other && bytes_eq id other_id) (λ p. let a = p.0 in let b = p.1 in cc) (λ e. (cc, cc)) (Decides-and (same_thing thing other) (bytes_eq id other_id) (same_decides thing other) (bytes_eq-Decides id other_id))
opens_decides thing id (Cancelling _ _) = (λ e. cc, λ e. cc)
opens_decides thing id Closing = (λ e. cc, λ e. cc)
opens_decides thing id (Asking _ _ _) = (λ e. cc, λ e. cc)
opens_decides thing id Other = (λ e. cc, λ e. cc)

pub cancels_decides : (thing : Thing) (id : List ℕ) (act : Act) → Decides (act_cancels thing id act) (act ≡ Cancelling thing id)
cancels_decides thing id (Cancelling other other_id) =
    Decides-like (same_thing thing other && bytes_eq id other_id) (λ p. let a = p.0 in let b = p.1 in cc) (λ e. (cc, cc)) (Decides-and (same_thing thing other) (bytes_eq id other_id) (same_decides thing other) (bytes_eq-Decides id other_id))
cancels_decides thing id (Opening _ _) = (λ e. cc, λ e. cc)
cancels_decides thing id Closing = (λ e. cc, λ e. cc)
cancels_decides thing id (Asking _ _ _) = (λ e. cc, λ e. cc)
cancels_decides thing id Other = (λ e. cc, λ e. cc)

closing_decides : (act : Act) → Decides (act_closes act) (act ≡ Closing)
closing_decides Closing = (λ e. refl, λ e. refl)
closing_decides (Opening _ _) = (λ e. cc, λ e. cc)
closing_decides (Cancelling _ _) = (λ e. cc, λ e. cc)
closing_decides (Asking _ _ _) = (λ e. cc, λ e. cc)
closing_decides Other = (λ e. cc, λ e. cc)

-- one of the commands passes the test exactly where one of them does that
pub does_decides : (test : Act → Bool) (act : Act) → ((a : Act) → Decides (test a) (a ≡ act)) → (xs : List Command) → Decides (some_act test xs) (Does xs act)
does_decides test act each xs =
    let d = split_decides (λ x _. test (act_of x)) (some_act test) refl (λ _ _. refl) xs in (
      λ h. let r = d.0 h in (r.0, r.1, r.2, r.3, (each (act_of r.1)).0 r.4),
      λ r. d.1 (r.0, r.1, r.2, r.3, (each (act_of r.1)).1 r.4),
    )

pub some_cancels : (thing : Thing) (id : List ℕ) (xs : List Command) → Decides (some_act (act_cancels thing id) xs) (Does xs (Cancelling thing id))
some_cancels thing id xs = does_decides (act_cancels thing id) (Cancelling thing id) (cancels_decides thing id) xs

or_swap : (a b : Bool) → (a || b) ≡ (b || a)
or_swap true true = refl
or_swap true false = refl
or_swap false true = refl
or_swap false false = refl

pub left_decides : (thing : Thing) (id : List ℕ) (xs : List Command) → Decides (left_open thing id xs) (IsLeftOpen thing id xs)
left_decides thing id xs =
    let test : Command → List Command → Bool = λ x rest. act_opens thing id (act_of x) && not (some_act (act_cancels thing id) rest) in
    let d = split_decides test (left_open thing id) refl (λ x rest. or_swap (left_open thing id rest) (test x rest)) xs in
    let each = λ (x : Command) (rest : List Command). Decides-and (act_opens thing id (act_of x)) (not (some_act (act_cancels thing id) rest)) (opens_decides thing id (act_of x)) (Decides-not (some_act (act_cancels thing id) rest) (some_cancels thing id rest)) in (
      λ h. let r = d.0 h in let q = (each r.1 r.2).0 r.4 in (r.0, r.1, r.2, r.3, q.0, q.1),
      λ r. d.1 (r.0, r.1, r.2, r.3, (each r.1 r.2).1 (r.4, r.5)),
    )

withdrawn_decides : (thing : Thing) (id : List ℕ) (xs : List Command) → Decides (withdrawn thing id xs) (IsWithdrawn thing id xs)
withdrawn_decides thing id xs =
    let test : Command → List Command → Bool = λ x rest. act_opens thing id (act_of x) && some_act (act_cancels thing id) rest in
    let d = split_decides test (withdrawn thing id) refl (λ _ _. refl) xs in
    let each = λ (x : Command) (rest : List Command). Decides-and (act_opens thing id (act_of x)) (some_act (act_cancels thing id) rest) (opens_decides thing id (act_of x)) (some_cancels thing id rest) in (
      λ h. let r = d.0 h in let q = (each r.1 r.2).0 r.4 in (r.0, r.1, r.2, r.3, q.0, q.1),
      λ r. d.1 (r.0, r.1, r.2, r.3, (each r.1 r.2).1 (r.4, r.5)),
    )

timer_decides : (thing : Thing) → Decides (is_timer thing) (thing ≡ Timer)
timer_decides Timer = (λ e. refl, λ e. refl)
timer_decides Activity = (λ e. cc, λ e. cc)
timer_decides Child = (λ e. cc, λ e. cc)
timer_decides CancelRequest = (λ e. cc, λ e. cc)
timer_decides SignalRequest = (λ e. cc, λ e. cc)

still_decides : (context : ActivationContext) (earlier : List Command) (thing : Thing) (id : List ℕ) → Decides (still_open context earlier thing id) (IsStillOpen context earlier thing id)
still_decides context earlier thing id =
    let stopped : Bool = is_timer thing && some_act (act_cancels thing id) earlier in
    Decides-or (left_open thing id earlier) (open_at context thing id && not stopped) (left_decides thing id earlier)
    (Decides-and (open_at context thing id) (not stopped) (has_decides context.seen thing id)
    (Decides-not stopped (Decides-and (is_timer thing) (some_act (act_cancels thing id) earlier) (timer_decides thing) (some_cancels thing id earlier))))

-- places in a list that stands in a longer one
pub at_left : (xs ys : List Event) (k : ℕ) (e : Event) → slice_get xs k ≡ Some e → slice_get (xs ++ ys) k ≡ Some e
at_left [] ys k e h = cc
at_left (x ∷ xs) ys zero e h = h
at_left (x ∷ xs) ys (suc k) e h = at_left xs ys k e h

pub at_right : (xs ys : List Event) (k : ℕ) (e : Event) → slice_get ys k ≡ Some e → (j : ℕ) × (j ≡ length xs + k) × (slice_get (xs ++ ys) j ≡ Some e)
at_right [] ys k e h = (k, omega arith, h)
at_right (x ∷ xs) ys k e h = let r = at_right xs ys k e h in (suc r.0, (let same = r.1 in omega arith), r.2)

-- an event between the cuts is one of the history
in_history : (context : ActivationContext) → IsOfCut context → (i : ℕ) (e : Event) → IsAt context.between i e → (j : ℕ) × IsAt context.seen j e
in_history context of_cut i e h =
    let ends = of_cut.ends in
    let k = index_of context.between i e h in
    let r = at_right ends.0 (context.between ++ ends.1 ∷ []) k.0 e (at_left context.between (ends.1 ∷ []) k.0 e k.2) in
    (suc r.0, at_index context.seen r.0 e (ap (λ l. slice_get l r.0) ends.2 ∙ r.2))

status_closes : (o : Option ℕ) (cancelling started : Bool) (by : ℕ) → status_by o cancelling started ≡ Closed by → o ≡ Some by
status_closes (Some other) cancelling started by h = cc
status_closes None true started by h = cc
status_closes None false true by h = cc
status_closes None false false by h = cc

status_cancels : (o : Option ℕ) (cancelling started : Bool) → status_by o cancelling started ≡ CancellingStatus → cancelling ≡ true
status_cancels (Some other) cancelling started h = cc
status_cancels None true started h = refl
status_cancels None false true h = cc
status_cancels None false false h = cc

-- in a history in place the event that closes a thing is the one whose number is found
closer_numbered : (events : List Event) → InPlace events → (number j : ℕ) (closer : Event) → IsAt events j closer → IsTrue (closes number closer) → closed_by number events ≡ Some j
closer_numbered events placed number j closer at shuts = status_closes _ _ _ j ((status_is_said events placed number).closed j closer at shuts)

outside_decides : (number : ℕ) (xs : List Event) → Decides (has_outside (Some number) xs) ((i : ℕ) × (e : Event) × IsAt xs i e × ((is_outside e && eqb number e.number) ≡ true))
outside_decides number xs = some_decides (λ e. is_outside e && eqb number e.number) (has_outside (Some number)) refl (λ _ _. refl) xs

module _ (context : ActivationContext) (of_cut : IsOfCut context) (thing : Thing) (id : List ℕ) where
  ended_found : (last closer : Option ℕ) → last_named context.seen thing id ≡ last → closer_of context.seen last ≡ closer → has_outside closer context.between ≡ true → IsEndedHere context thing id
  ended_found None closer l c h = let w : has_outside None context.between ≡ true = ap (λ o. has_outside o context.between) c ∙ h in cc
  ended_found (Some number) None l c h = cc
  ended_found (Some number) (Some by) l c h =
      let r = (outside_decides by context.between).0 h in
      let test = (Decides-and (is_outside r.1) (eqb by r.1.number) (λ e. e, λ e. e) (Decides-eqb by r.1.number)).0 r.3 in
      let there = in_history context of_cut r.0 r.1 r.2 in
      let own = of_cut.in_place.numbered there.0 r.1 there.1 in
      let closed = (closed_decides context.seen number).0 (ap is_some c) in
      let found = closer_numbered context.seen of_cut.in_place number closed.0 closed.1 closed.2 closed.3 in
      let same : closed.0 ≡ there.0 = (let a : Some closed.0 ≡ Some by = sym found ∙ c in let b = test.1 in cc) in
      let event = same_event context.seen there.0 closed.1 r.1 (subst (λ i. IsAt context.seen i closed.1) same closed.2) there.1 in
      (number, r.0, r.1, (last_last context.seen of_cut.in_place thing id number).0 l, r.2, test.0, subst (λ e. IsTrue (closes number e)) event closed.3)

  ended_decides : Decides (has_outside (closer_of context.seen (last_named context.seen thing id)) context.between) (IsEndedHere context thing id)
  ended_decides = (
    λ h. ended_found (last_named context.seen thing id) _ refl refl h,
    λ r.
        let there = in_history context of_cut r.1 r.2 r.4 in
        let own = of_cut.in_place.numbered there.0 r.2 there.1 in
        let last = (last_last context.seen of_cut.in_place thing id r.0).1 r.3 in
        let found = closer_numbered context.seen of_cut.in_place r.0 there.0 r.2 there.1 r.6 in
        let closer : closer_of context.seen (last_named context.seen thing id) ≡ Some r.2.number = ap (closer_of context.seen) last ∙ (found ∙ ap Some (sym own)) in
        ap (λ o. has_outside o context.between) closer
        ∙ (outside_decides r.2.number context.between).1 (r.1, r.2, r.4, (Decides-and (is_outside r.2) (eqb r.2.number r.2.number) (λ e. e, λ e. e) (Decides-eqb r.2.number r.2.number)).1 (r.5, refl)),
  )

  pub late_decides : (earlier : List Command) → Decides (is_late context earlier thing id) (IsLateCancel context earlier thing id)
  late_decides earlier =
      let opened : Bool = some_act (act_opens thing id) earlier in
      let ended : Bool = has_outside (closer_of context.seen (last_named context.seen thing id)) context.between in
      Decides-like (is_late context earlier thing id) (λ p. (p.0, p.1.0, p.1.1)) (λ p. (p.0, (p.1, p.2)))
      (Decides-and (not (open_at context thing id)) (not opened && ended) (Decides-not (open_at context thing id) (has_decides context.seen thing id))
      (Decides-and (not opened) ended (Decides-not opened (does_decides (act_opens thing id) (Opening thing id) (opens_decides thing id) earlier)) ended_decides))

  cancelling_found : (o : Option ℕ) → IsTrue (is_named thing) → open_named context.seen thing id ≡ o → cancels_open context o ≡ true → IsCancellingAtCut context thing id
  cancelling_found None named e h = cc
  cancelling_found (Some number) named e h =
      let under = (open_unclosed context.seen of_cut.in_place thing id number named).0 e in
      let unclosed = elim (some_or_none (closed_by number context.seen)) as (λ _. closed_by number context.seen ≡ None) [ inl some ↦ absurd (under.3 ((closed_decides context.seen number).0 (ap is_some some.1))) | inr none ↦ none ] in
      (number, under, ap (λ o. status_by o (is_cancelling context.seen number) (is_started context.seen number)) unclosed ∙ ap (λ b. status_by None b (is_started context.seen number)) h)

  cancelling_decides : IsTrue (is_named thing) → Decides (cancels_open context (open_named context.seen thing id)) (IsCancellingAtCut context thing id)
  cancelling_decides named = (
    λ h. cancelling_found (open_named context.seen thing id) named refl h,
    λ r. ap (cancels_open context) ((open_unclosed context.seen of_cut.in_place thing id r.0 named).1 r.1) ∙ status_cancels _ _ _ r.2,
  )

  again_decides : IsTrue (is_named thing) → (earlier : List Command) → Decides (is_canceled context earlier thing id) ((¬ (thing ≡ Timer)) × (IsCancellingAtCut context thing id ⊎ (HasOpen context.seen thing id × Does earlier (Cancelling thing id))))
  again_decides named earlier =
      let asked : Bool = cancels_open context (open_named context.seen thing id) in
      let stopped : Bool = open_at context thing id && some_act (act_cancels thing id) earlier in
      Decides-and (not (is_timer thing)) (asked || stopped) (Decides-not (is_timer thing) (timer_decides thing))
      (Decides-or asked stopped (cancelling_decides named) (Decides-and (open_at context thing id) (some_act (act_cancels thing id) earlier) (has_decides context.seen thing id) (some_cancels thing id earlier)))

-- what commands open and cancel has a name
abbrev IsNamedAct : Act → Type 0
IsNamedAct (Cancelling thing id) = IsTrue (is_named thing)
IsNamedAct _ = Unit {0}

named_act : (command : Command) → IsNamedAct (act_of command)
named_act (CancelActivity id) = refl
named_act (CancelTimer id) = refl
named_act (CancelChild workflow_id) = refl
named_act _ = tt

-- the tests of the rows
uses : ActivationContext → List Command → Act → Bool
uses context earlier (Opening thing id) = still_open context earlier thing id
uses context earlier _ = false

reuses : List Command → Act → Bool
reuses earlier (Opening thing id) = withdrawn thing id earlier
reuses earlier _ = false

misses : ActivationContext → List Command → Act → Bool
misses context earlier (Cancelling thing id) = not (still_open context earlier thing id) && not (is_late context earlier thing id)
misses context earlier _ = false

cancels_again : ActivationContext → List Command → Act → Bool
cancels_again context earlier (Cancelling thing id) = is_canceled context earlier thing id
cancels_again context earlier _ = false

asks_badly : Act → Bool
asks_badly (Asking change_id low high) = int_lt high low || (int_lt low (negsuc 0) || int_lt high (pos 0))
asks_badly _ = false

gets_badly : ActivationContext → Settled → Act → Bool
gets_badly context settled (Asking change_id low high) = let version = (choice_of context settled change_id high).version in int_lt version low || int_lt high version
gets_badly context settled _ = false

row_test : ActivationContext → Settled → List Command → Command → WorkflowFault → Bool
row_test context settled earlier command AfterClosing = some_act act_closes earlier
row_test context settled earlier command TooManyCommands = leb most_commands (length (given earlier))
row_test context settled earlier command IdInUse = uses context earlier (act_of command)
row_test context settled earlier command IdReused = reuses earlier (act_of command)
row_test context settled earlier command NotOpen = misses context earlier (act_of command)
row_test context settled earlier command AlreadyCancelling = cancels_again context earlier (act_of command)
row_test context settled earlier command BadRange = asks_badly (act_of command)
row_test context settled earlier command VersionOutOfRange = gets_badly context settled (act_of command)
row_test context settled earlier command UnknownWorkflow = false

-- the rows of the table, in their order
abbrev rows : List WorkflowFault
rows = AfterClosing ∷ TooManyCommands ∷ IdInUse ∷ IdReused ∷ NotOpen ∷ AlreadyCancelling ∷ BadRange ∷ VersionOutOfRange ∷ UnknownWorkflow ∷ []

stands : (f : WorkflowFault) → (k : ℕ) × (row_of f ≡ suc k) × (slice_get rows k ≡ Some f)
stands AfterClosing = (0, refl, refl)
stands TooManyCommands = (1, refl, refl)
stands IdInUse = (2, refl, refl)
stands IdReused = (3, refl, refl)
stands NotOpen = (4, refl, refl)
stands AlreadyCancelling = (5, refl, refl)
stands BadRange = (6, refl, refl)
stands VersionOutOfRange = (7, refl, refl)
stands UnknownWorkflow = (8, refl, refl)

or_none : (o : Option WorkflowFault) → o ≡ or_else o None
or_none None = refl
or_none (Some x) = refl

in_rows : (context : ActivationContext) (settled : Settled) (earlier : List Command) (act : Act) → act_fault context settled earlier act
    ≡ or_else (fault_if (uses context earlier act) IdInUse) (or_else (fault_if (reuses earlier act) IdReused) (or_else (fault_if (misses context earlier act) NotOpen)
    (or_else (fault_if (cancels_again context earlier act) AlreadyCancelling) (or_else (fault_if (asks_badly act) BadRange) (or_else (fault_if (gets_badly context settled act) VersionOutOfRange) None)))))
unfolding opening_fault cancel_fault ask_fault uses reuses misses cancels_again asks_badly gets_badly
in_rows context settled earlier (Opening thing id) = ap (or_else (fault_if (still_open context earlier thing id) IdInUse)) (or_none (fault_if (withdrawn thing id earlier) IdReused))
in_rows context settled earlier (Cancelling thing id) =
    ap (or_else (fault_if (not (still_open context earlier thing id) && not (is_late context earlier thing id)) NotOpen)) (or_none (fault_if (is_canceled context earlier thing id) AlreadyCancelling))
in_rows context settled earlier (Asking change_id low high) =
    let version : ℤ = (choice_of context settled change_id high).version in
    ap (or_else (fault_if (int_lt high low || (int_lt low (negsuc 0) || int_lt high (pos 0))) BadRange)) (or_none (fault_if (int_lt version low || int_lt high version) VersionOutOfRange))
in_rows context settled earlier Closing = refl
in_rows context settled earlier Other = refl

fault_row : (context : ActivationContext) (settled : Settled) (earlier : List Command) (command : Command) → command_fault context settled earlier command ≡ first_row rows (row_test context settled earlier command)
unfolding command_fault row_test
fault_row context settled earlier command = rw (in_rows context settled earlier (act_of command)) refl

-- each test decides its row
true_of : (b : Bool) → T b → b ≡ true
true_of true h = refl
true_of false h = absurd h

of_true : (b : Bool) → b ≡ true → T b
of_true true h = tt
of_true false h = cc

less_decides : (a b : ℤ) → Decides (int_lt a b) (a <ℤ b)
less_decides a b = (λ h. lt_z_yes (of_true (int_lt a b) h), λ h. true_of (int_lt a b) h.lt)

module _ (context : ActivationContext) (of_cut : IsOfCut context) (settled : Settled) (earlier : List Command) where
  uses_decides : (act : Act) → Decides (uses context earlier act) (UsesId context earlier act)
  unfolding uses
  uses_decides (Opening thing id) = still_decides context earlier thing id
  uses_decides (Cancelling _ _) = (λ e. cc, λ h. absurd h)
  uses_decides Closing = (λ e. cc, λ h. absurd h)
  uses_decides (Asking _ _ _) = (λ e. cc, λ h. absurd h)
  uses_decides Other = (λ e. cc, λ h. absurd h)

  reuses_decides : (act : Act) → Decides (reuses earlier act) (ReusesId earlier act)
  unfolding reuses
  reuses_decides (Opening thing id) = withdrawn_decides thing id earlier
  reuses_decides (Cancelling _ _) = (λ e. cc, λ h. absurd h)
  reuses_decides Closing = (λ e. cc, λ h. absurd h)
  reuses_decides (Asking _ _ _) = (λ e. cc, λ h. absurd h)
  reuses_decides Other = (λ e. cc, λ h. absurd h)

  misses_decides : (act : Act) → Decides (misses context earlier act) (CancelsNothing context earlier act)
  unfolding misses
  misses_decides (Cancelling thing id) =
      Decides-and (not (still_open context earlier thing id)) (not (is_late context earlier thing id)) (Decides-not (still_open context earlier thing id) (still_decides context earlier thing id))
      (Decides-not (is_late context earlier thing id) (late_decides context of_cut thing id earlier))
  misses_decides (Opening _ _) = (λ e. cc, λ h. absurd h)
  misses_decides Closing = (λ e. cc, λ h. absurd h)
  misses_decides (Asking _ _ _) = (λ e. cc, λ h. absurd h)
  misses_decides Other = (λ e. cc, λ h. absurd h)

  cancels_again_decides : (act : Act) → IsNamedAct act → Decides (cancels_again context earlier act) (CancelsAgain context earlier act)
  unfolding cancels_again
  cancels_again_decides (Cancelling thing id) named = again_decides context of_cut thing id named earlier
  cancels_again_decides (Opening _ _) named = (λ e. cc, λ h. absurd h)
  cancels_again_decides Closing named = (λ e. cc, λ h. absurd h)
  cancels_again_decides (Asking _ _ _) named = (λ e. cc, λ h. absurd h)
  cancels_again_decides Other named = (λ e. cc, λ h. absurd h)

  asks_badly_decides : (act : Act) → Decides (asks_badly act) (AsksBadRange act)
  unfolding asks_badly
  asks_badly_decides (Asking change_id low high) =
      Decides-or (int_lt high low) (int_lt low (negsuc 0) || int_lt high (pos 0)) (less_decides high low) (Decides-or (int_lt low (negsuc 0)) (int_lt high (pos 0)) (less_decides low (negsuc 0)) (less_decides high (pos 0)))
  asks_badly_decides (Opening _ _) = (λ e. cc, λ h. absurd h)
  asks_badly_decides (Cancelling _ _) = (λ e. cc, λ h. absurd h)
  asks_badly_decides Closing = (λ e. cc, λ h. absurd h)
  asks_badly_decides Other = (λ e. cc, λ h. absurd h)

  gets_badly_decides : (act : Act) → Decides (gets_badly context settled act) (GetsOutOfRange context settled act)
  unfolding gets_badly
  gets_badly_decides (Asking change_id low high) =
      let version : ℤ = (choice_of context settled change_id high).version in
      Decides-or (int_lt version low) (int_lt high version) (less_decides version low) (less_decides high version)
  gets_badly_decides (Opening _ _) = (λ e. cc, λ h. absurd h)
  gets_badly_decides (Cancelling _ _) = (λ e. cc, λ h. absurd h)
  gets_badly_decides Closing = (λ e. cc, λ h. absurd h)
  gets_badly_decides Other = (λ e. cc, λ h. absurd h)

  row_decides : (command : Command) (row : WorkflowFault) → Decides (row_test context settled earlier command row) (RowApplies context settled earlier command row)
  unfolding row_test
  row_decides command AfterClosing = does_decides act_closes Closing closing_decides earlier
  row_decides command TooManyCommands = leb_decides most_commands (length (given earlier))
  row_decides command IdInUse = uses_decides (act_of command)
  row_decides command IdReused = reuses_decides (act_of command)
  row_decides command NotOpen = misses_decides (act_of command)
  row_decides command AlreadyCancelling = cancels_again_decides (act_of command) (named_act command)
  row_decides command BadRange = asks_badly_decides (act_of command)
  row_decides command VersionOutOfRange = gets_badly_decides (act_of command)
  row_decides command UnknownWorkflow = (λ e. cc, λ h. absurd h)

pub least_row_decides : LeastRowDecides
least_row_decides context settled earlier command of_cut =
    let t = row_test context settled earlier command in
    subst (IsLeastOrNone row_of (RowApplies context settled earlier command)) (sym (fault_row context settled earlier command))
    (first_row_is_least row_of t rows refl stands (RowApplies context settled earlier command) (row_decides context of_cut settled earlier command))
