-- How one more event in place changes whether a thing is open, was asked to cancel, or has ended.
use Rattle.std.proofs.Common.{◌≡◌, ℕ, ◌+◌, ◌<◌, ◌≤◌, Bool, true, false, not, ◌&&◌, ◌||◌, cond, eqb, ltb, List, [], ◌∷◌, ◌++◌, length, Option, Some, None, is_none, is_some, refl, sym, ap, ap₂, subst, ◌∙◌, append_assoc, append-nil, arith}
use Rattle.std.proofs.lemmas.Bool.{eq-eqb, ne_eqb, eqb-true, both_ways}
use Rattle.std.proofs.lemmas.Bool.Decides.{nat_tests}
use Rattle.std.proofs.lemmas.List.{length_push}
use Rattle.wh_events.specs.declared.event.Event.{Event}
use Rattle.wh_events.specs.declared.place.Thing.{Thing}
use Rattle.wh_events.specs.declared.place.Thing.TheVariants.{Child}
use Rattle.wh_events.specs.declared.kind.Effect.TheVariants.{Starts, Cancels, Closes}
use Rattle.wh_events.specs.Kinds.{Role, role_of}
use Rattle.wh_events.specs.Kinds.Role.{Opens, Refers, CancelsChild, Plain}
use Rattle.wh_events.specs.Cuts.{is_outside}
use Rattle.wh_events.specs.Machines.{or_else, opens, opens_under, closes, closes_number, closed_by, is_open, open_named, last_named, is_number, cancels_number, canceled_after, is_cancelling, opened_thing, role_at}
use Rattle.wh_events.specs.Places.{place_fault, fault_after, is_named, is_thing, reference_fault, role_fault}
use Rattle.wh_machines.proofs.Options.{or_else-none, first_none, second_none, not_faulty}
use Rattle.wh_machines.proofs.Histories.{number_if, last_named-push, place_none, later_none, fault_after-push}
use Rattle.wh_machines.proofs.Placed.{accepted, reference_there, id_free, NumberedFrom, numbered_after}
use Rattle.wh_machines.proofs.Named.{opens_under-is, last_named_role}
use Rattle.wh_machines.proofs.OpenNamed.{closed_by-push, open_if, open_named_last}
use Rattle.wh_workflow.specs.Scripts.{ActivationContext, is_timer, has_outside, closer_of, cancels_open}
use Rattle.wh_possible_runs.specs.declared.thing.Phase.{Phase}
use Rattle.wh_possible_runs.specs.declared.thing.Phase.TheVariants.{Absent, Open, AskedToCancel, EndTold}
use Rattle.wh_possible_runs.specs.Things.{is_running}
use Rattle.wh_possible_runs.specs.Rules.{phase_by, phase_at}

-- the phase of a thing that is open or not
abbrev pub standing_by : Bool → Bool → Bool → Phase
standing_by timer here asked = elim here [ true ↦ cond (not timer && asked) AskedToCancel Open | false ↦ Absent ]

-- the open thing, if there is one, was asked to be canceled
abbrev pub asked_in : List Event → Option ℕ → Bool
asked_in events None = false
asked_in events (Some number) = is_cancelling events number

-- the phase once a cancel is asked for
abbrev pub asked_to : Phase → Phase
asked_to Open = AskedToCancel
asked_to phase = phase

-- the phase of a thing at a cut
abbrev pub joined : Phase → Bool → Phase
joined Absent ended = cond ended EndTold Absent
joined phase ended = phase

-- there is a number, and it passes the test
abbrev pub some_test : (ℕ → Bool) → Option ℕ → Bool
some_test test None = false
some_test test (Some number) = test number

-- events that follow those before refer to no number that is still to come

no_reference : (before : List Event) (number : ℕ) (target : ℕ) → length before < number
    → (eqb target 0 || ltb (length before) target) ≡ false → eqb number target ≡ false
no_reference before number target far there = grind (arith, nat_tests)

no_close : (before : List Event) (number : ℕ) (role : Role) → length before < number → role_fault before role ≡ None
    → closes_number number role ≡ false
no_close before number (Refers thing target Closes) far h =
    no_reference before number target far (reference_there before thing target h)
no_close before number (Refers thing target Starts) far h = refl
no_close before number (Refers thing target Cancels) far h = refl
no_close before number (Opens thing id) far h = refl
no_close before number (CancelsChild id) far h = refl
no_close before number Plain far h = refl

no_child : (before : List Event) (number : ℕ) (id : List ℕ) → length before < number → fault_after [] before ≡ None
    → is_number number (open_named before Child id) ≡ false
no_child before number id far placed =
    ap (is_number number) (open_named_last Child id before refl placed) ∙ by (last_named before Child id) refl
  where
    chosen : (b : Bool) (last : ℕ) → eqb number last ≡ false → is_number number (cond b (Some last) None) ≡ false
    chosen true last e = e
    chosen false last e = refl

    by : (o : Option ℕ) → last_named before Child id ≡ o → is_number number (open_if before o) ≡ false
    by None e = refl
    by (Some last) e =
        let role = last_named_role Child id last before (numbered_after [] before placed) e in
        let low = role.1 in
        chosen (is_open before last) last (ne_eqb number last (λ same. omega arith))

no_cancel : (before : List Event) (number : ℕ) (role : Role) → length before < number → fault_after [] before ≡ None
    → role_fault before role ≡ None → cancels_number before number role ≡ false
no_cancel before number (Refers thing target Cancels) far placed h =
    no_reference before number target far (reference_there before thing target h)
no_cancel before number (Refers thing target Starts) far placed h = refl
no_cancel before number (Refers thing target Closes) far placed h = refl
no_cancel before number (Opens thing id) far placed h = refl
no_cancel before number (CancelsChild id) far placed h = no_child before number id far placed
no_cancel before number Plain far placed h = refl

not_closed : (before events : List Event) (number : ℕ) → fault_after before events ≡ None
    → length before + length events < number → closed_by number events ≡ None
not_closed before [] number h far = refl
not_closed before (event ∷ rest) number h far =
    let here = accepted before event (place_none _ _ _ h) in
    let quiet = no_close before number (role_of event.body) (omega arith) here.allowed in
    let size = length_push before event in
    rw quiet (not_closed (before ++ event ∷ []) rest number (later_none _ _ _ h) (omega arith))

not_canceled : (before events : List Event) (number : ℕ) → fault_after [] before ≡ None → fault_after before events ≡ None
    → length before + length events < number → canceled_after before number events ≡ false
not_canceled before [] number placed h far = refl
not_canceled before (event ∷ rest) number placed h far =
    let fits = place_none _ _ _ h in
    let here = accepted before event fits in
    let quiet = no_cancel before number (role_of event.body) (omega arith) placed here.allowed in
    let size = length_push before event in
    rw quiet (not_canceled (before ++ event ∷ []) rest number (fault_after-push [] before event placed fits) (later_none _ _ _ h) (omega arith))

canceled-push : (before : List Event) (number : ℕ) (events : List Event) (event : Event)
    → canceled_after before number (events ++ event ∷ [])
    ≡ (canceled_after before number events || cancels_number (before ++ events) number (role_of event.body))
canceled-push before number [] event = rw append-nil (by (cancels_number before number (role_of event.body)))
  where
    by : (b : Bool) → (b || false) ≡ (false || b)
    by true = refl
    by false = refl
canceled-push before number (first ∷ rest) event =
    ap (λ b. cancels_number before number (role_of first.body) || b)
    (canceled-push (before ++ first ∷ []) number rest event
    ∙ ap (λ l. canceled_after (before ++ first ∷ []) number rest || cancels_number l number (role_of event.body)) (append_assoc before (first ∷ []) rest))
    ∙ by (cancels_number before number (role_of first.body)) (canceled_after (before ++ first ∷ []) number rest)
    (cancels_number (before ++ first ∷ rest) number (role_of event.body))
  where
    by : (a b c : Bool) → (a || (b || c)) ≡ ((a || b) || c)
    by true b c = refl
    by false b c = refl

pub outside-push : (closer : ℕ) (between : List Event) (event : Event)
    → has_outside (Some closer) (between ++ event ∷ [])
    ≡ (has_outside (Some closer) between || (is_outside event && eqb closer event.number))
outside-push closer [] event = by (is_outside event && eqb closer event.number)
  where
    by : (b : Bool) → (b || false) ≡ (false || b)
    by true = refl
    by false = refl
outside-push closer (first ∷ rest) event =
    ap (λ b. (is_outside first && eqb closer first.number) || b) (outside-push closer rest event)
    ∙ by (is_outside first && eqb closer first.number) (has_outside (Some closer) rest) (is_outside event && eqb closer event.number)
  where
    by : (a b c : Bool) → (a || (b || c)) ≡ ((a || b) || c)
    by true b c = refl
    by false b c = refl

-- what closes a thing is one of the events
closer_low : (n number closer : ℕ) (events : List Event) → NumberedFrom n events → closed_by number events ≡ Some closer
    → closer ≤ n + length events
closer_low n number closer [] numbered is = cc
closer_low n number closer (event ∷ rest) numbered is = by (closes number event) (λ e. closer_low (n + 1) number closer rest numbered.1 e) is
  where
    by : (b : Bool) → (closed_by number rest ≡ Some closer → closer ≤ (n + 1) + length rest)
        → cond b (Some event.number) (closed_by number rest) ≡ Some closer → closer ≤ n + length (event ∷ rest)
    by true later is = let first = numbered.0 in let same : event.number ≡ closer = cc in omega arith
    by false later is = let far = later is in omega arith

open_not_closed : (events : List Event) (number : ℕ) → is_open events number ≡ true → closed_by number events ≡ None
open_not_closed events number is = by (closed_by number events) is
  where
    by : (o : Option ℕ) → is_none o ≡ true → o ≡ None
    by None is = refl
    by (Some n) is = cc

not_not : (b : Bool) → not b ≡ false → b ≡ true
not_not true is = refl
not_not false is = cc

-- a reference in place
pub record Reference (before : List Event) (thing : Thing) (number : ℕ) : Type 0 where
  pub there : (eqb number 0 || ltb (length before) number) ≡ false
  pub kind : is_thing thing (opened_thing (role_at before number)) ≡ true
  pub found : is_open before number ≡ true

pub reference : (before : List Event) (thing : Thing) (number : ℕ) → reference_fault before thing number ≡ None
    → Reference before thing number
unfolding reference_fault
reference before thing number h = record {
  there = reference_there before thing number h;
  kind = not_not _ (not_faulty _ _ (first_none _ _ (second_none _ _ h)));
  found = not_not _ (not_faulty _ _ (second_none _ _ (second_none _ _ h)));
}

closes_open : (before : List Event) (number : ℕ) (role : Role) → role_fault before role ≡ None
    → closes_number number role ≡ true → is_open before number ≡ true
closes_open before number (Refers thing target Closes) h is =
    let same : number ≡ target = eqb-true number target is in
    subst (λ n. is_open before n ≡ true) (sym same) (reference before thing target h).found
closes_open before number (Refers thing target Starts) h is = cc
closes_open before number (Refers thing target Cancels) h is = cc
closes_open before number (Opens thing id) h is = cc
closes_open before number (CancelsChild id) h is = cc
closes_open before number Plain h is = cc

closes_opens_not : (thing : Thing) (id : List ℕ) (number : ℕ) (role : Role) → closes_number number role ≡ true
    → opens_under thing id role ≡ false
closes_opens_not thing id number (Refers _ target Closes) is = refl
closes_opens_not thing id number (Refers _ target Starts) is = cc
closes_opens_not thing id number (Refers _ target Cancels) is = cc
closes_opens_not thing id number (Opens _ _) is = cc
closes_opens_not thing id number (CancelsChild _) is = cc
closes_opens_not thing id number Plain is = cc

child_open : (before : List Event) (number : ℕ) (id : List ℕ) → fault_after [] before ≡ None
    → is_number number (open_named before Child id) ≡ true → is_open before number ≡ true
child_open before number id placed is =
    by (last_named before Child id) (sym (ap (is_number number) (open_named_last Child id before refl placed)) ∙ is)
  where
    chosen : (b : Bool) (last : ℕ) → is_open before last ≡ b → is_number number (cond b (Some last) None) ≡ true → is_open before number ≡ true
    chosen true last p is = let same : number ≡ last = eqb-true number last is in subst (λ n. is_open before n ≡ true) (sym same) p
    chosen false last p is = cc

    by : (o : Option ℕ) → is_number number (open_if before o) ≡ true → is_open before number ≡ true
    by None is = cc
    by (Some last) is = chosen (is_open before last) last refl is

cancels_what_is_open : (before : List Event) (number : ℕ) (role : Role) → fault_after [] before ≡ None → role_fault before role ≡ None
    → cancels_number before number role ≡ true → is_open before number ≡ true
cancels_what_is_open before number (Refers thing target Cancels) placed h is =
    let same : number ≡ target = eqb-true number target is in
    subst (λ n. is_open before n ≡ true) (sym same) (reference before thing target h).found
cancels_what_is_open before number (Refers thing target Starts) placed h is = cc
cancels_what_is_open before number (Refers thing target Closes) placed h is = cc
cancels_what_is_open before number (Opens thing id) placed h is = cc
cancels_what_is_open before number (CancelsChild id) placed h is = child_open before number id placed is
cancels_what_is_open before number Plain placed h is = cc

module _ (thing : Thing) (id : List ℕ) where
  -- the phase of a thing after events, if none is told
  abbrev pub standing : List Event → Phase
  standing events =
      standing_by (is_timer thing) (is_some (open_named events thing id)) (asked_in events (open_named events thing id))

  -- the last such thing has ended by one of the events between
  abbrev pub has_ended : List Event → List Event → Bool
  has_ended events between = has_outside (closer_of events (last_named events thing id)) between

  pub phase_is : (context : ActivationContext)
      → phase_at context thing id ≡ joined (standing context.seen) (has_ended context.seen context.between)
  phase_is context = by (open_named context.seen thing id)
    where
      at_some : (b ended : Bool) → cond b AskedToCancel Open ≡ joined (cond b AskedToCancel Open) ended
      at_some true ended = refl
      at_some false ended = refl

      by : (o : Option ℕ) → phase_by (is_timer thing) (is_some o) (cancels_open context o) (has_ended context.seen context.between)
          ≡ joined (standing_by (is_timer thing) (is_some o) (asked_in context.seen o)) (has_ended context.seen context.between)
      by None = refl
      by (Some number) = at_some (not (is_timer thing) && is_cancelling context.seen number) (has_ended context.seen context.between)

  module _ (now : List Event) (event : Event) (named : is_named thing ≡ true) (placed : fault_after [] now ≡ None)
      (fits : place_fault now event ≡ None) where
    abbrev pub later : List Event
    later = now ++ event ∷ []

    -- the event closes the last such thing
    abbrev pub closes_last : Bool
    closes_last = some_test (λ number. closes number event) (last_named now thing id)

    -- the event asks for the last such thing to be canceled
    abbrev pub cancels_last : Bool
    cancels_last =
        not (is_timer thing) && some_test (λ number. cancels_number now number (role_of event.body)) (last_named now thing id)

    all_placed : fault_after [] later ≡ None
    all_placed = fault_after-push [] now event placed fits

    numbered : event.number ≡ length now + 1
    numbered = (accepted now event fits).numbered

    allowed : role_fault now (role_of event.body) ≡ None
    allowed = (accepted now event fits).allowed

    last_is : (opened : Bool) → opens thing id event ≡ opened
        → last_named later thing id ≡ or_else (cond opened (Some event.number) None) (last_named now thing id)
    last_is opened is =
        last_named-push thing id now event ∙ ap (λ b. or_else (number_if b event) (last_named now thing id)) is

    open_is : (last : Option ℕ) → last_named later thing id ≡ last → open_named later thing id ≡ open_if later last
    open_is last is = open_named_last thing id later named all_placed ∙ ap (open_if later) is

    opened_asked : (t : Bool) → cond (not t && false) AskedToCancel Open ≡ Open
    opened_asked true = refl
    opened_asked false = refl

    -- the event opens it
    pub opened : opens thing id event ≡ true → (standing now ≡ Absent) × (standing later ≡ Open)
        × ((between : List Event) → has_ended later between ≡ false)
    opened is =
        let role : role_of event.body ≡ Opens thing id = opens_under-is thing id (role_of event.body) is in
        let free : open_named now thing id ≡ None = id_free now thing id named (ap (role_fault now) (sym role) ∙ allowed) in
        let at : event.number ≡ length now + 1 = numbered in
        let last : last_named later thing id ≡ Some event.number = last_is true is in
        let not_now : closed_by event.number now ≡ None = not_closed [] now event.number placed (omega arith) in
        let not_here : closes event.number event ≡ false = ap (closes_number event.number) role in
        let unclosed : closed_by event.number later ≡ None =
        closed_by-push event.number now event ∙ rw (not_now, not_here) refl in
        let found : open_named later thing id ≡ Some event.number =
        open_is (Some event.number) last ∙ ap (λ (o : Option ℕ). cond (is_none o) (Some event.number) None) unclosed in
        let unasked : is_cancelling later event.number ≡ false =
        canceled-push [] event.number now event
        ∙ ap₂ (λ a b. a || b) (not_canceled [] now event.number refl placed (omega arith)) (ap (cancels_number now event.number) role) in (
          ap (λ (o : Option ℕ). standing_by (is_timer thing) (is_some o) (asked_in now o)) free,
          ap (λ (o : Option ℕ). standing_by (is_timer thing) (is_some o) (asked_in later o)) found
              ∙ ap (λ b. standing_by (is_timer thing) true b) unasked ∙ opened_asked (is_timer thing),
          λ between. ap (λ (o : Option ℕ). has_outside (closer_of later o) between) last
              ∙ ap (λ (o : Option ℕ). has_outside o between) unclosed,
        )

    running_by : (t : Bool) → is_running (cond t AskedToCancel Open) ≡ true
    running_by true = refl
    running_by false = refl

    pub running_is : (number : ℕ) → last_named now thing id ≡ Some number → is_open now number ≡ true
        → is_running (standing now) ≡ true
    running_is number last found =
        let here : open_named now thing id ≡ Some number =
        open_named_last thing id now named placed ∙ ap (open_if now) last ∙ ap (λ b. cond b (Some number) None) found in
        ap (λ (o : Option ℕ). is_running (standing_by (is_timer thing) (is_some o) (asked_in now o))) here
        ∙ running_by (not (is_timer thing) && is_cancelling now number)

    -- the event closes it
    pub closed : (number : ℕ) → last_named now thing id ≡ Some number → closes number event ≡ true
        → (is_running (standing now) ≡ true) × (standing later ≡ Absent)
        × ((between : List Event) → has_outside (Some event.number) between ≡ false
        → has_ended later (between ++ event ∷ []) ≡ is_outside event)
    closed number last is =
        let was_open : is_open now number ≡ true = closes_open now number (role_of event.body) allowed is in
        let last_later : last_named later thing id ≡ Some number =
        last_is false (closes_opens_not thing id number (role_of event.body) is) ∙ last in
        let closer : closed_by number later ≡ Some event.number =
        closed_by-push number now event ∙ rw (open_not_closed now number was_open, is) refl in
        let found : open_named later thing id ≡ None =
        open_is (Some number) last_later ∙ ap (λ (o : Option ℕ). cond (is_none o) (Some number) None) closer in (
          running_is number last was_open,
          ap (λ (o : Option ℕ). standing_by (is_timer thing) (is_some o) (asked_in later o)) found,
          λ between fresh. ap (λ (o : Option ℕ). has_outside (closer_of later o) (between ++ event ∷ [])) last_later
              ∙ ap (λ (o : Option ℕ). has_outside o (between ++ event ∷ [])) closer
              ∙ outside-push event.number between event
              ∙ ap₂ (λ a b. a || (is_outside event && b)) fresh (eq-eqb event.number event.number refl)
              ∙ by (is_outside event),
        )
      where
        by : (b : Bool) → (false || (b && true)) ≡ b
        by true = refl
        by false = refl

    -- the event neither opens nor closes it
    Kept : Type 0
    Kept =
        (standing later ≡ cond cancels_last (asked_to (standing now)) (standing now))
        × (cancels_last ≡ true → is_running (standing now) ≡ true)
        × ((between : List Event) → has_ended later (between ++ event ∷ []) ≡ has_ended now between)

    not_at_all : (t : Bool) → (not t && false) ≡ false
    not_at_all true = refl
    not_at_all false = refl

    kept_by : (last : Option ℕ) → last_named now thing id ≡ last → opens thing id event ≡ false
        → some_test (λ number. closes number event) last ≡ false → Kept
    unfolding Kept
    kept_by None last out off =
        let last_later : last_named later thing id ≡ None = last_is false out ∙ last in
        let open_now : open_named now thing id ≡ None = open_named_last thing id now named placed ∙ ap (open_if now) last in
        let open_later : open_named later thing id ≡ None = open_is None last_later in
        let none : cancels_last ≡ false =
        ap (λ (o : Option ℕ). not (is_timer thing) && some_test (λ number. cancels_number now number (role_of event.body)) o) last
        ∙ not_at_all (is_timer thing) in (
          ap (λ (o : Option ℕ). standing_by (is_timer thing) (is_some o) (asked_in later o)) open_later
              ∙ sym (ap (λ (o : Option ℕ). standing_by (is_timer thing) (is_some o) (asked_in now o)) open_now)
              ∙ sym (ap (λ b. cond b (asked_to (standing now)) (standing now)) none),
          λ is. absurd (both_ways cancels_last none is),
          λ between. ap (λ (o : Option ℕ). has_outside (closer_of later o) (between ++ event ∷ [])) last_later
              ∙ sym (ap (λ (o : Option ℕ). has_outside (closer_of now o) between) last),
        )
    kept_by (Some number) last out off = by (is_open now number) refl
      where
        c : Bool
        c = cancels_number now number (role_of event.body)

        last_later : last_named later thing id ≡ Some number
        last_later = last_is false out ∙ last

        closer : closed_by number later ≡ closed_by number now
        closer = closed_by-push number now event ∙ ap (λ b. or_else (closed_by number now) (number_if b event)) off ∙ or_else-none (closed_by number now)

        cancels_is : cancels_last ≡ (not (is_timer thing) && cancels_number now number (role_of event.body))
        cancels_is = ap (λ (o : Option ℕ). not (is_timer thing) && some_test (λ number. cancels_number now number (role_of event.body)) o) last

        ended_by : (o : Option ℕ) → closed_by number now ≡ o → (between : List Event)
            → has_outside o (between ++ event ∷ []) ≡ has_outside o between
        ended_by None is between = refl
        ended_by (Some closer) is between =
            let low = closer_low 0 number closer now (numbered_after [] now placed) is in
            let at = numbered in
            outside-push closer between event
            ∙ ap (λ b. has_outside (Some closer) between || (is_outside event && b)) (ne_eqb closer event.number (λ same. omega arith))
            ∙ flat (has_outside (Some closer) between) (is_outside event)
          where
            flat : (a b : Bool) → (a || (b && false)) ≡ a
            flat true b = refl
            flat false true = refl
            flat false false = refl

        ended : (between : List Event) → has_ended later (between ++ event ∷ []) ≡ has_ended now between
        ended between =
            ap (λ (o : Option ℕ). has_outside (closer_of later o) (between ++ event ∷ [])) last_later
            ∙ ap (λ (o : Option ℕ). has_outside o (between ++ event ∷ [])) closer
            ∙ ended_by (closed_by number now) refl between
            ∙ sym (ap (λ (o : Option ℕ). has_outside (closer_of now o) between) last)

        more_asked : (t a c : Bool) → standing_by t true (a || c) ≡ cond (not t && c) (asked_to (standing_by t true a)) (standing_by t true a)
        more_asked true true c = refl
        more_asked true false true = refl
        more_asked true false false = refl
        more_asked false true true = refl
        more_asked false true false = refl
        more_asked false false true = refl
        more_asked false false false = refl

        by : (found : Bool) → is_open now number ≡ found → Kept
        by true is =
            let open_now : open_named now thing id ≡ Some number =
            open_named_last thing id now named placed ∙ ap (open_if now) last ∙ ap (λ b. cond b (Some number) None) is in
            let open_later : open_named later thing id ≡ Some number =
            open_is (Some number) last_later ∙ ap (λ (o : Option ℕ). cond (is_none o) (Some number) None) closer ∙ ap (λ b. cond b (Some number) None) is in (
              ap (λ (o : Option ℕ). standing_by (is_timer thing) (is_some o) (asked_in later o)) open_later
                  ∙ ap (λ b. standing_by (is_timer thing) true b) (canceled-push [] number now event)
                  ∙ more_asked (is_timer thing) (is_cancelling now number) (cancels_number now number (role_of event.body))
                  ∙ sym (ap₂ (λ (b : Bool) (p : Phase). cond b (asked_to p) p) cancels_is
                  (ap (λ (o : Option ℕ). standing_by (is_timer thing) (is_some o) (asked_in now o)) open_now)),
              λ _. running_is number last is,
              ended,
            )
        by false is =
            let open_now : open_named now thing id ≡ None =
            open_named_last thing id now named placed ∙ ap (open_if now) last ∙ ap (λ b. cond b (Some number) None) is in
            let open_later : open_named later thing id ≡ None =
            open_is (Some number) last_later ∙ ap (λ (o : Option ℕ). cond (is_none o) (Some number) None) closer ∙ ap (λ b. cond b (Some number) None) is in
            let none : cancels_last ≡ false = cancels_is ∙ not_asked (cancels_number now number (role_of event.body)) refl in (
              ap (λ (o : Option ℕ). standing_by (is_timer thing) (is_some o) (asked_in later o)) open_later
                  ∙ sym (ap (λ (o : Option ℕ). standing_by (is_timer thing) (is_some o) (asked_in now o)) open_now)
                  ∙ sym (ap (λ b. cond b (asked_to (standing now)) (standing now)) none),
              λ does. absurd (both_ways cancels_last none does),
              ended,
            )
          where
            not_asked : (c : Bool) → cancels_number now number (role_of event.body) ≡ c → (not (is_timer thing) && c) ≡ false
            not_asked true does = absurd (both_ways (is_open now number) is (cancels_what_is_open now number (role_of event.body) placed allowed does))
            not_asked false does = not_at_all (is_timer thing)

    pub kept : opens thing id event ≡ false → closes_last ≡ false
        → (standing later ≡ cond cancels_last (asked_to (standing now)) (standing now))
        × (cancels_last ≡ true → is_running (standing now) ≡ true)
        × ((between : List Event) → has_ended later (between ++ event ∷ []) ≡ has_ended now between)
    unfolding Kept
    kept out off = kept_by (last_named now thing id) refl out off
