-- What holds after lists of steps of a table of open calls.
use Rattle.std.proofs.Common.{◌≡◌, ◌≢◌, ◌⊎◌, ℕ, zero, suc, ◌+◌, ◌<◌, ◌≤◌, Bool, true, false, cond, List, [], ◌∷◌, Option, Some, None, refl, sym, ap, ◌∙◌, arith, inl, inr}
use Rattle.std.proofs.lemmas.Option.{same_Some, none-some}
use Rattle.std.proofs.lemmas.Bool.{true≢false}
use Rattle.std.proofs.lemmas.Bool.Decides.{nat_tests}
use Rattle.wh_rpc.specs.Tables.{Table, IsFirst, Opens, Takes, refuses, is_id}
use Rattle.wh_rpc.specs.Steps.{Step, Does, DoesAll, ids_given, polls_given, times_given, IsOpening, StaysOpen, IsOpen}
use Rattle.wh_rpc.specs.Steps.{IdsRunUpwards, ResponsesFindTheirCalls, ResponsesAreGivenOnce, EndedCallsStayEnded, PollsEndAtShutdown}
use Rattle.wh_rpc.specs.Steps.Step.{opened, answered, drained, closed}

-- ---- The test of ids

is_id-self : (id : ℕ) → is_id id id ≡ true
is_id-self id = grind (arith, nat_tests)

is_id-same : (id other : ℕ) → is_id id other ≡ true → id ≡ other
is_id-same id other h = grind (arith, nat_tests, h)

is_id-apart : (id other : ℕ) → id ≢ other → is_id id other ≡ false
is_id-apart id other h = grind (arith, nat_tests, h)

is_id-differ : (id other : ℕ) → is_id id other ≡ false → id ≢ other
is_id-differ id other h e = true≢false (sym (is_id-self other) ∙ ap (λ n. is_id n other) (sym e) ∙ h)

two : (b : Bool) → (b ≡ true) ⊎ (b ≡ false)
two true = inl refl
two false = inr refl

chosen : {X : Type 0} (b : Bool) (x y : X) → b ≡ true → cond b x y ≡ x
chosen b x y h = ap (λ c. cond c x y) h

left : {X : Type 0} (b : Bool) (x y : X) → b ≡ false → cond b x y ≡ y
left b x y h = ap (λ c. cond c x y) h

below-apart : (id given : ℕ) → id < given → is_id given id ≡ false
below-apart id given h = is_id-apart given id (λ e. absurd (omega (arith, h, e)))

given_less : (b : Bool) (n : ℕ) → b ≡ false → cond b 1 0 + n ≡ n
given_less true n h = absurd (true≢false h)
given_less false n h = omega arith

given_one : (b : Bool) (n : ℕ) → b ≡ true → n ≡ 0 → cond b 1 0 + n ≤ 1
given_one true n h none = omega (arith, none)
given_one false n h none = omega (arith, none)

le_or_lt : (m n : ℕ) → (m ≤ n) ⊎ (n < m)
le_or_lt m n = grind arith

module _ {T : Type 0} where
  -- ---- What a step does to a waiter

  opened_here : (old new : Table T) (is_poll : Bool) (waiter : T) (id : ℕ) → Opens old new is_poll waiter id → new.waiter id ≡ Some waiter
  opened_here old new is_poll waiter id s = s.waits id ∙ chosen (is_id id id) (Some waiter) (old.waiter id) (is_id-self id)

  opened_there : (old new : Table T) (is_poll : Bool) (waiter : T) (id other : ℕ) → Opens old new is_poll waiter id → is_id id other ≡ false → new.waiter other ≡ old.waiter other
  opened_there old new is_poll waiter id other s h = s.waits other ∙ left (is_id id other) (Some waiter) (old.waiter other) h

  taken_here : (old new : Table T) (id other : ℕ) (found : Option T) → Takes old new id found → is_id id other ≡ true → new.waiter other ≡ None
  taken_here old new id other found s h = s.waits other ∙ chosen (is_id id other) None (old.waiter other) h

  taken_there : (old new : Table T) (id other : ℕ) (found : Option T) → Takes old new id found → is_id id other ≡ false → new.waiter other ≡ old.waiter other
  taken_there old new id other found s h = s.waits other ∙ left (is_id id other) None (old.waiter other) h

  -- ---- Ids

  pub run_upwards : IdsRunUpwards T
  run_upwards first last [] i id s at = absurd (none-some id at)
  run_upwards first last (opened is_poll waiter given ∷ steps) zero id s at =
      let is : given ≡ id = same_Some given id at in
      let numbered : given ≡ first.next = s.1.numbered in omega (arith, is, numbered)
  run_upwards first last (opened is_poll waiter given ∷ steps) (suc i) id s at =
      let rest = run_upwards s.0 last steps i id s.2 at in
      let risen : s.0.next ≡ first.next + 1 = s.1.next in omega (arith, rest, risen)
  run_upwards first last (answered given found ∷ steps) i id s at =
      run_upwards s.0 last steps i id s.2 at ∙ ap (λ n. n + i) s.1.next
  run_upwards first last (drained ∷ steps) i id s at =
      run_upwards s.0 last steps i id s.2 at ∙ ap (λ t. t.next + i) s.1
  run_upwards first last (closed ∷ steps) i id s at =
      run_upwards s.0 last steps i id s.2 at ∙ ap (λ n. n + i) s.1.next

  -- ---- Whoever waits was opened

  opened_before : (old new : Table T) (is_poll : Bool) (other : T) (given : ℕ) (steps : List (Step T)) (id : ℕ) (waiter : T)
      → Opens old new is_poll other given → new.waiter id ≡ Some waiter → StaysOpen id steps → (is_id given id ≡ true) ⊎ (is_id given id ≡ false)
      → (old.waiter id ≡ Some waiter × StaysOpen id steps) ⊎ IsOpen id waiter (opened is_poll other given ∷ steps)
  opened_before old new is_poll other given steps id waiter s h stay (inl here) =
      let same = is_id-same given id here in
      let now : Some other ≡ Some waiter = sym (opened_here old new is_poll other given s) ∙ ap new.waiter same ∙ h in
      inr (inl ((same, same_Some other waiter now), stay))
  opened_before old new is_poll other given steps id waiter s h stay (inr there) =
      inl (sym (opened_there old new is_poll other given id s there) ∙ h, stay)

  answered_before : (old new : Table T) (given : ℕ) (found : Option T) (steps : List (Step T)) (id : ℕ) (waiter : T)
      → Takes old new given found → new.waiter id ≡ Some waiter → StaysOpen id steps → (is_id given id ≡ true) ⊎ (is_id given id ≡ false)
      → (old.waiter id ≡ Some waiter × StaysOpen id (answered given found ∷ steps)) ⊎ IsOpen id waiter (answered given found ∷ steps)
  answered_before old new given found steps id waiter s h stay (inl here) = absurd (none-some waiter (sym (taken_here old new given id found s here) ∙ h))
  answered_before old new given found steps id waiter s h stay (inr there) =
      inl (sym (taken_there old new given id found s there) ∙ h, (is_id-differ given id there, stay))

  before : (old new : Table T) (step : Step T) (steps : List (Step T)) (id : ℕ) (waiter : T) → Does old step new → new.waiter id ≡ Some waiter → StaysOpen id steps
      → (old.waiter id ≡ Some waiter × StaysOpen id (step ∷ steps)) ⊎ IsOpen id waiter (step ∷ steps)
  before old new (opened is_poll other given) steps id waiter s h stay = opened_before old new is_poll other given steps id waiter s h stay (two (is_id given id))
  before old new (answered given found) steps id waiter s h stay = answered_before old new given found steps id waiter s h stay (two (is_id given id))
  before old new drained steps id waiter s h stay = inl (sym (ap (λ t. t.waiter id) s) ∙ h, stay)
  before old new closed steps id waiter s h stay = absurd (none-some waiter (sym (s.empty id) ∙ h))

  waits_from : (first last : Table T) (steps : List (Step T)) (id : ℕ) (waiter : T) → DoesAll first steps last → last.waiter id ≡ Some waiter
      → (first.waiter id ≡ Some waiter × StaysOpen id steps) ⊎ IsOpen id waiter steps
  waits_from first last [] id waiter s h = inl (sym (ap (λ t. t.waiter id) s) ∙ h, tt)
  waits_from first last (step ∷ steps) id waiter s h =
      elim (waits_from s.0 last steps id waiter s.2 h) [ inl k ↦ before first s.0 step steps id waiter s.1 k.0 k.1 | inr k ↦ inr (inr k) ]

  -- ---- Whoever was opened waits

  stays : (first last : Table T) (steps : List (Step T)) (id : ℕ) (waiter : T) → DoesAll first steps last → first.waiter id ≡ Some waiter → id < first.next → StaysOpen id steps → last.waiter id ≡ Some waiter
  stays first last [] id waiter s h below stay = ap (λ t. t.waiter id) s ∙ h
  stays first last (opened is_poll other given ∷ steps) id waiter s h below stay =
      let numbered : given ≡ first.next = s.1.numbered in
      let risen : s.0.next ≡ first.next + 1 = s.1.next in
      let apart = below-apart id given (omega (arith, below, numbered)) in
      stays s.0 last steps id waiter s.2 (opened_there first s.0 is_poll other given id s.1 apart ∙ h) (omega (arith, below, risen)) stay
  stays first last (answered given found ∷ steps) id waiter s h below stay =
      let kept : s.0.next ≡ first.next = s.1.next in
      stays s.0 last steps id waiter s.2 (taken_there first s.0 given id found s.1 (is_id-apart given id stay.0) ∙ h) (omega (arith, below, kept)) stay.1
  stays first last (drained ∷ steps) id waiter s h below stay =
      let kept : s.0.next ≡ first.next = ap (λ t. t.next) s.1 in
      stays s.0 last steps id waiter s.2 (ap (λ t. t.waiter id) s.1 ∙ h) (omega (arith, below, kept)) stay
  stays first last (closed ∷ steps) id waiter s h below stay = absurd stay

  opens_at : (first next last : Table T) (step : Step T) (steps : List (Step T)) (id : ℕ) (waiter : T) → Does first step next → DoesAll next steps last → IsOpening id waiter step → StaysOpen id steps → last.waiter id ≡ Some waiter
  opens_at first next last (opened is_poll other given) steps id waiter s more is stay =
      let numbered : given ≡ first.next = s.numbered in
      let risen : next.next ≡ first.next + 1 = s.next in
      let same : given ≡ id = is.0 in
      let now : next.waiter id ≡ Some waiter = ap next.waiter (sym same) ∙ opened_here first next is_poll other given s ∙ ap Some is.1 in
      stays next last steps id waiter more now (omega (arith, numbered, risen, same)) stay
  opens_at first next last (answered given found) steps id waiter s more is stay = absurd is
  opens_at first next last drained steps id waiter s more is stay = absurd is
  opens_at first next last closed steps id waiter s more is stay = absurd is

  waits : (first last : Table T) (steps : List (Step T)) (id : ℕ) (waiter : T) → DoesAll first steps last → IsOpen id waiter steps → last.waiter id ≡ Some waiter
  waits first last [] id waiter s is = absurd is
  waits first last (step ∷ steps) id waiter s (inl is) = opens_at first s.0 last step steps id waiter s.1 s.2 is.0 is.1
  waits first last (step ∷ steps) id waiter s (inr is) = waits s.0 last steps id waiter s.2 is

  found_open : (first middle : Table T) (steps : List (Step T)) (id : ℕ) (waiter : T) → IsFirst first → DoesAll first steps middle → middle.waiter id ≡ Some waiter → IsOpen id waiter steps
  found_open first middle steps id waiter f s h =
      elim (waits_from first middle steps id waiter s h) [ inl k ↦ absurd (none-some waiter (sym (f.empty id) ∙ k.0)) | inr k ↦ k ]

  pub find_their_calls : ResponsesFindTheirCalls T
  find_their_calls first middle last steps id waiter found f s takes =
      (λ h. found_open first middle steps id waiter f s (sym takes.gives ∙ h), λ is. takes.gives ∙ waits first middle steps id waiter s is)

  -- ---- Once

  -- nothing waits under an id that was not given
  IsFresh : Table T → Type 0
  IsFresh t = (id : ℕ) → t.next ≤ id → t.waiter id ≡ None

  fresh_after : (old new : Table T) (step : Step T) → Does old step new → IsFresh old → IsFresh new
  unfolding IsFresh
  fresh_after old new (opened is_poll waiter given) s h id above =
      let numbered : given ≡ old.next = s.numbered in
      let risen : new.next ≡ old.next + 1 = s.next in
      opened_there old new is_poll waiter given id s (is_id-apart given id (λ e. absurd (omega (arith, above, numbered, risen, e)))) ∙ h id (omega (arith, above, risen))
  fresh_after old new (answered given found) s h id above =
      let kept : new.next ≡ old.next = s.next in
      let was = h id (omega (arith, above, kept)) in
      elim (two (is_id given id)) [ inl here ↦ taken_here old new given id found s here | inr there ↦ taken_there old new given id found s there ∙ was ]
  fresh_after old new drained s h id above =
      let kept : new.next ≡ old.next = ap (λ t. t.next) s in
      ap (λ t. t.waiter id) s ∙ h id (omega (arith, above, kept))
  fresh_after old new closed s h id above = s.empty id

  -- an id under which nothing waits any more
  never : (first last : Table T) (steps : List (Step T)) (id : ℕ) → DoesAll first steps last → first.waiter id ≡ None → id < first.next → times_given id steps ≡ 0
  never first last [] id s h below = refl
  never first last (opened is_poll other given ∷ steps) id s h below =
      let numbered : given ≡ first.next = s.1.numbered in
      let risen : s.0.next ≡ first.next + 1 = s.1.next in
      let apart = below-apart id given (omega (arith, below, numbered)) in
      never s.0 last steps id s.2 (opened_there first s.0 is_poll other given id s.1 apart ∙ h) (omega (arith, below, risen))
  never first last (answered given None ∷ steps) id s h below =
      let kept : s.0.next ≡ first.next = s.1.next in
      let none : s.0.waiter id ≡ None = elim (two (is_id given id)) [ inl here ↦ taken_here first s.0 given id None s.1 here | inr there ↦ taken_there first s.0 given id None s.1 there ∙ h ] in
      never s.0 last steps id s.2 none (omega (arith, below, kept))
  never first last (answered given (Some other) ∷ steps) id s h below =
      let kept : s.0.next ≡ first.next = s.1.next in
      let clash : given ≡ id → ⊥ = λ e. none-some other (sym h ∙ ap first.waiter (sym e) ∙ sym s.1.gives) in
      let there = is_id-apart given id clash in
      given_less (is_id given id) (times_given id steps) there ∙ never s.0 last steps id s.2 (taken_there first s.0 given id (Some other) s.1 there ∙ h) (omega (arith, below, kept))
  never first last (drained ∷ steps) id s h below =
      let kept : s.0.next ≡ first.next = ap (λ t. t.next) s.1 in
      never s.0 last steps id s.2 (ap (λ t. t.waiter id) s.1 ∙ h) (omega (arith, below, kept))
  never first last (closed ∷ steps) id s h below =
      let kept : s.0.next ≡ first.next = s.1.next in
      never s.0 last steps id s.2 (s.1.empty id) (omega (arith, below, kept))

  lower : (t : Table T) (id : ℕ) (waiter : T) → IsFresh t → t.waiter id ≡ Some waiter → (t.next ≤ id) ⊎ (id < t.next) → id < t.next
  unfolding IsFresh
  lower t id waiter h is (inl above) = absurd (none-some waiter (sym (h id above) ∙ is))
  lower t id waiter h is (inr below) = below

  once_given : (first next last : Table T) (given : ℕ) (other : T) (steps : List (Step T)) (id : ℕ) → IsFresh first → Takes first next given (Some other) → DoesAll next steps last → times_given id steps ≤ 1
      → (is_id given id ≡ true) ⊎ (is_id given id ≡ false) → cond (is_id given id) 1 0 + times_given id steps ≤ 1
  once_given first next last given other steps id h s more rest (inl here) =
      let same = is_id-same given id here in
      let kept : next.next ≡ first.next = s.next in
      let below : given < first.next = lower first given other h (sym s.gives) (le_or_lt first.next given) in
      let none = never next last steps id more (taken_here first next given id (Some other) s here) (omega (arith, same, kept, below)) in
      given_one (is_id given id) (times_given id steps) here none
  once_given first next last given other steps id h s more rest (inr there) =
      let same = given_less (is_id given id) (times_given id steps) there in omega (arith, same, rest)

  once : (first last : Table T) (steps : List (Step T)) (id : ℕ) → IsFresh first → DoesAll first steps last → times_given id steps ≤ 1
  once first last [] id h s = omega arith
  once first last (opened is_poll other given ∷ steps) id h s = once s.0 last steps id (fresh_after first s.0 (opened is_poll other given) s.1 h) s.2
  once first last (answered given None ∷ steps) id h s = once s.0 last steps id (fresh_after first s.0 (answered given None) s.1 h) s.2
  once first last (answered given (Some other) ∷ steps) id h s =
      once_given first s.0 last given other steps id h s.1 s.2 (once s.0 last steps id (fresh_after first s.0 (answered given (Some other)) s.1 h) s.2) (two (is_id given id))
  once first last (drained ∷ steps) id h s = once s.0 last steps id (fresh_after first s.0 drained s.1 h) s.2
  once first last (closed ∷ steps) id h s = once s.0 last steps id (fresh_after first s.0 closed s.1 h) s.2

  pub given_once : ResponsesAreGivenOnce T
  unfolding IsFresh
  given_once first last steps id f s = once first last steps id (λ other above. f.empty other) s

  -- ---- The end

  refuses_closed : (t : Table T) (is_poll : Bool) → t.closed ≡ true → refuses is_poll t ≡ true
  refuses_closed t is_poll h = grind (arith, h)

  refuses_polls : (t : Table T) → t.draining ≡ true → refuses true t ≡ true
  refuses_polls t h = grind (arith, h)

  ended : (first last : Table T) (steps : List (Step T)) → first.closed ≡ true → DoesAll first steps last → (ids_given steps ≡ []) × (last.closed ≡ true)
  ended first last [] h s = (refl, ap (λ t. t.closed) s ∙ h)
  ended first last (opened is_poll waiter id ∷ steps) h s = absurd (true≢false (sym (refuses_closed first is_poll h) ∙ s.1.open_still))
  ended first last (answered id found ∷ steps) h s = ended s.0 last steps (s.1.closed ∙ h) s.2
  ended first last (drained ∷ steps) h s = ended s.0 last steps (ap (λ t. t.closed) s.1 ∙ h) s.2
  ended first last (closed ∷ steps) h s = ended s.0 last steps s.1.closed s.2

  pub stay_ended : EndedCallsStayEnded T
  stay_ended first middle last steps is_poll closes s =
      let is = ended middle last steps closes.closed s in (is.0, refuses_closed last is_poll is.1)

  no_polls : (first last : Table T) (steps : List (Step T)) → first.draining ≡ true → DoesAll first steps last → (polls_given steps ≡ []) × (last.draining ≡ true)
  no_polls first last [] h s = (refl, ap (λ t. t.draining) s ∙ h)
  no_polls first last (opened true waiter id ∷ steps) h s = absurd (true≢false (sym (refuses_polls first h) ∙ s.1.open_still))
  no_polls first last (opened false waiter id ∷ steps) h s = no_polls s.0 last steps (s.1.draining ∙ h) s.2
  no_polls first last (answered id found ∷ steps) h s = no_polls s.0 last steps (s.1.draining ∙ h) s.2
  no_polls first last (drained ∷ steps) h s = no_polls s.0 last steps (ap (λ t. t.draining) s.1) s.2
  no_polls first last (closed ∷ steps) h s = no_polls s.0 last steps (s.1.draining ∙ h) s.2

  pub polls_end : PollsEndAtShutdown T
  polls_end first middle last steps drains s =
      let is = no_polls middle last steps (ap (λ t. t.draining) drains) s in (is.0, refuses_polls last is.1)
