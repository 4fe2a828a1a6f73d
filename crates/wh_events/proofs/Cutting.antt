-- The cuts of a history are at the places where `Tasks` says they are.
use Rattle.std.proofs.Common.{◌≡◌, ℕ, zero, suc, ◌+◌, ◌-◌, ◌<◌, ◌↔◌, ◌⊎◌, Bool, true, false, ◌&&◌, cond, List, [], ◌∷◌, length, drop, Option, Some, None, refl, sym, ap, subst, ◌∙◌, inl, inr, arith, slice_get, IsTrue, Contains, All, AllPairs}
use Rattle.std.specs.List.Sorted.{IsStrictlyIncreasing}
use Rattle.std.specs.List.{slice_index_or}
use Rattle.std.proofs.lemmas.List.Elements.{All-weaker, All-contains_itself}
use Rattle.std.proofs.lemmas.List.Kept.{AllPairs-cons}
use Rattle.wh_events.specs.declared.event.Event.{Event}
use Rattle.wh_events.specs.declared.kind.EventKind.{EventKind}
use Rattle.wh_events.specs.declared.kind.EventKind.TheVariants.{WorkflowTaskStarted, WorkflowTaskCompleted}
use Rattle.wh_events.specs.Cuts.{is_task_started_kind, is_task_completed_kind, is_inert, next_core, lets_cut, completes, is_cut, is_recorded, cuts}
use Rattle.wh_events.specs.InPlace.{IsAt}
use Rattle.wh_events.specs.Tasks.{StartsTask, OnlyInertAfter, IsNextCore, CompletesNext, IsLiveCut, IsRecordedCut}
use Rattle.wh_events.proofs.Placing.{at_index, index_of, bool_cases, leb_cases}

starts_kind : (kind : EventKind) → is_task_started_kind kind ≡ true → kind ≡ WorkflowTaskStarted
starts_kind WorkflowTaskStarted e = refl
starts_kind _ e = cc

pub completes_kind : (kind : EventKind) → is_task_completed_kind kind ≡ true → kind ≡ WorkflowTaskCompleted
completes_kind WorkflowTaskCompleted e = refl
completes_kind _ e = cc

-- the first core event of a list, or none
abbrev NextFound : List Event → Type 0
NextFound xs =
    ((next_core xs ≡ None) × ((j : ℕ) (e : Event) → slice_get xs j ≡ Some e → is_inert e ≡ true))
    ⊎ ((k : ℕ) × (e : Event) × (next_core xs ≡ Some e) × (slice_get xs k ≡ Some e) × (is_inert e ≡ false) × ((j : ℕ) (other : Event) → j < k → slice_get xs j ≡ Some other → is_inert other ≡ true))

all_inert : (x : Event) (xs : List Event) → is_inert x ≡ true → ((j : ℕ) (e : Event) → slice_get xs j ≡ Some e → is_inert e ≡ true) → (j : ℕ) (e : Event) → slice_get (x ∷ xs) j ≡ Some e → is_inert e ≡ true
all_inert x xs here later zero e h = let same : x ≡ e = cc in ap is_inert (sym same) ∙ here
all_inert x xs here later (suc j) e h = later j e h

inert_until : (x : Event) (xs : List Event) (k : ℕ) → is_inert x ≡ true → ((j : ℕ) (e : Event) → j < k → slice_get xs j ≡ Some e → is_inert e ≡ true)
    → (j : ℕ) (e : Event) → j < suc k → slice_get (x ∷ xs) j ≡ Some e → is_inert e ≡ true
inert_until x xs k here later zero e b h = let same : x ≡ e = cc in ap is_inert (sym same) ∙ here
inert_until x xs k here later (suc j) e b h = later j e (omega arith) h

next_by : (x : Event) (xs : List Event) → NextFound xs → NextFound (x ∷ xs)
next_by x xs found =
    elim (bool_cases (is_inert x)) [
      | inl here ↦
          (let passed : next_core (x ∷ xs) ≡ next_core xs = ap (λ (b : Bool). cond b (next_core xs) (Some x)) here in
          elim found [
            | inl none ↦ inl (passed ∙ none.0, all_inert x xs here none.1)
            | inr some ↦ inr (suc some.0, some.1, passed ∙ some.2, some.3, some.4, inert_until x xs some.0 here some.5)
          ])
      | inr core ↦ inr (zero, x, ap (λ (b : Bool). cond b (next_core xs) (Some x)) core, refl, core, λ j other b h. absurd (omega arith))
    ]

next_found : (xs : List Event) → NextFound xs
next_found [] = inl (refl, λ j e h. cc)
next_found (x ∷ xs) = next_by x xs (next_found xs)

-- what stands after a place
get_drop : (n : ℕ) (xs : List Event) (j i : ℕ) → i ≡ n + j → slice_get (drop n xs) j ≡ slice_get xs i
get_drop zero xs j i e = let same : j ≡ i = omega arith in ap (slice_get xs) same
get_drop (suc n) [] j i e = refl
get_drop (suc n) (x ∷ xs) j zero e = absurd (omega arith)
get_drop (suc n) (x ∷ xs) j (suc i) e = get_drop n xs j i (omega arith)

behind : (xs : List Event) (place i : ℕ) (e : Event) → place < i → IsAt xs i e → slice_get (drop place xs) (i - 1 - place) ≡ Some e
behind xs place i e b at = get_drop place xs (i - 1 - place) (i - 1) (omega arith) ∙ at.1

ahead : (xs : List Event) (place j : ℕ) (e : Event) → slice_get (drop place xs) j ≡ Some e → IsAt xs (suc (place + j)) e
ahead xs place j e h = at_index xs (place + j) e (sym (get_drop place xs j (place + j) refl) ∙ h)

module _ (events : List Event) (place : ℕ) where
  none_after : next_core (drop place events) ≡ None → OnlyInertAfter events place
  none_after none =
      elim (next_found (drop place events)) [
        | inl found ↦ λ i later b at. found.1 (i - 1 - place) later (behind events place i later b at)
        | inr found ↦ absurd (let w = found.2 in cc)
      ]

  after_none : OnlyInertAfter events place → next_core (drop place events) ≡ None
  after_none only =
      elim (next_found (drop place events)) [
        | inl found ↦ found.0
        | inr found ↦ absurd (let w = only (suc (place + found.0)) found.1 (omega arith) (ahead events place found.0 found.1 found.3) in let v = found.4 in cc)
      ]

  recorded_next : completes (next_core (drop place events)) ≡ true → CompletesNext events place
  recorded_next h =
      elim (next_found (drop place events)) [
        | inl found ↦ absurd (let w : completes (next_core (drop place events)) ≡ false = ap completes found.0 in cc)
        | inr found ↦
            (let kind = completes_kind found.1.body (sym (ap completes found.2) ∙ h) in (
              suc (place + found.0),
              found.1,
              record {
                later = omega arith;
                stands = ahead events place found.0 found.1 found.3;
                core = λ inert. (let v = found.4 in cc);
                inert_between = λ i other b less at. found.5 (i - 1 - place) other (omega arith) (behind events place i other b at);
              },
              kind,
            ))
      ]

  -- the first core event is one alone
  same_next : (k i : ℕ) (e event : Event) → IsNextCore events place i event → slice_get (drop place events) k ≡ Some e → is_inert e ≡ false
      → ((j : ℕ) (other : Event) → j < k → slice_get (drop place events) j ≡ Some other → is_inert other ≡ true) → e ≡ event
  same_next k i e event next at core before =
      let later = next.later in
      let there = behind events place i event later next.stands in
      elim (leb_cases k (i - 1 - place)) [
        | inl below ↦ elim (leb_cases (i - 1 - place) k) [
          | inl above ↦ (let same : k ≡ i - 1 - place = omega arith in let h : slice_get (drop place events) (i - 1 - place) ≡ Some e = ap (slice_get (drop place events)) (sym same) ∙ at in cc)
          | inr less ↦ absurd (let w = next.inert_between (suc (place + k)) e (omega arith) (omega arith) (ahead events place k e at) in cc)
        ]
        | inr more ↦ absurd (next.core (before (i - 1 - place) event more there))
      ]

  next_recorded : CompletesNext events place → completes (next_core (drop place events)) ≡ true
  next_recorded next =
      elim (next_found (drop place events)) [
        | inl found ↦ absurd (next.2.core (found.1 (next.0 - 1 - place) next.1 (behind events place next.0 next.1 next.2.later next.2.stands)))
        | inr found ↦
            (let same = same_next found.0 next.0 found.1 next.1 next.2 found.3 found.4 found.5 in
            ap completes found.2 ∙ (ap (λ (e : Event). is_task_completed_kind e.body) same ∙ ap is_task_completed_kind next.3))
      ]

all_of : (a b : Bool) → a ≡ true → b ≡ true → (a && b) ≡ true
all_of true b p q = q
all_of false b p q = cc

both : (a b : Bool) → (a && b) ≡ true → (a ≡ true) × (b ≡ true)
both true b h = (refl, h)
both false b h = cc

-- what may stand after a cut
live_next : (o : Option Event) → lets_cut o ≡ true → ¬ (completes o ≡ true) → o ≡ None
live_next None a b = refl
live_next (Some e) a b = absurd (b a)

lets_next : (o : Option Event) → completes o ≡ true → lets_cut o ≡ true
lets_next None h = cc
lets_next (Some e) h = h

-- a task starts at the place of an event
starts : (events : List Event) (place : ℕ) (event : Event) → IsAt events place event → StartsTask events place → event.body ≡ WorkflowTaskStarted
starts events place event at started = let a = at.1 in let b = started.1.1 in let same : event ≡ started.0 = cc in ap (λ (e : Event). e.body) same ∙ started.2

is_cut_at : (event : Event) (rest : List Event) → event.body ≡ WorkflowTaskStarted → lets_cut (next_core rest) ≡ true → is_cut event rest ≡ true
is_cut_at event rest kind lets = all_of (is_task_started_kind event.body) (lets_cut (next_core rest)) (ap is_task_started_kind kind) lets

cut_at : (event : Event) (rest : List Event) → is_cut event rest ≡ true → (event.body ≡ WorkflowTaskStarted) × (lets_cut (next_core rest) ≡ true)
cut_at event rest h = let p = both (is_task_started_kind event.body) (lets_cut (next_core rest)) h in (starts_kind event.body p.0, p.1)

pub live_cut : (events : List Event) (place : ℕ) (event : Event) → IsAt events place event
    → (IsTrue (is_cut event (drop place events)) × ¬ IsTrue (is_recorded (drop place events))) ↔ IsLiveCut events place
live_cut events place event at = (
  λ p. let cut = cut_at event (drop place events) p.0 in ((event, at, cut.0), none_after events place (live_next (next_core (drop place events)) cut.1 p.1)),
  λ live.
      let none = after_none events place live.1 in (
        is_cut_at event (drop place events) (starts events place event at live.0) (ap lets_cut none),
        λ recorded. (let w : completes (next_core (drop place events)) ≡ false = ap completes none in cc),
      ),
)

pub recorded_cut : (events : List Event) (place : ℕ) (event : Event) → IsAt events place event
    → (IsTrue (is_cut event (drop place events)) × IsTrue (is_recorded (drop place events))) ↔ IsRecordedCut events place
recorded_cut events place event at = (
  λ p. let cut = cut_at event (drop place events) p.0 in ((event, at, cut.0), recorded_next events place p.1),
  λ recorded.
      let next = next_recorded events place recorded.1 in
      (is_cut_at event (drop place events) (starts events place event at recorded.0) (lets_next (next_core (drop place events)) next), next),
)

either_cut : (events : List Event) (place : ℕ) (event : Event) → IsAt events place event → is_cut event (drop place events) ≡ true → IsLiveCut events place ⊎ IsRecordedCut events place
either_cut events place event at cut =
    elim (bool_cases (is_recorded (drop place events))) [
      | inl recorded ↦ inr ((recorded_cut events place event at).0 (cut, recorded))
      | inr live ↦ inl ((live_cut events place event at).0 (cut, λ recorded. cc))
    ]

cut_either : (events : List Event) (place : ℕ) → IsLiveCut events place ⊎ IsRecordedCut events place → (event : Event) × IsAt events place event × (is_cut event (drop place events) ≡ true)
cut_either events place said =
    elim said [
      | inl live ↦ (live.0.0, live.0.1, ((live_cut events place live.0.0 live.0.1).1 live).0)
      | inr recorded ↦ (recorded.0.0, recorded.0.1, ((recorded_cut events place recorded.0.0 recorded.0.1).1 recorded).0)
    ]

-- an event that is a cut has the number
abbrev HasCut : List Event → ℕ → Type 0
HasCut xs number = (k : ℕ) × (e : Event) × (slice_get xs k ≡ Some e) × (is_cut e (drop (suc k) xs) ≡ true) × (e.number ≡ number)

contains_at : (x y : ℕ) (xs : List ℕ) (k : ℕ) → k < length (x ∷ xs) → slice_index_or (x ∷ xs) k y ≡ y → (x ≡ y) ⊎ Contains xs y
contains_at x y xs zero b h = inl h
contains_at x y xs (suc k) b h = inr (k, omega arith, h)

contains_cases : (x y : ℕ) (xs : List ℕ) → Contains (x ∷ xs) y → (x ≡ y) ⊎ Contains xs y
contains_cases x y xs h = contains_at x y xs h.0 h.1 h.2

cuts_have : (xs : List Event) (number : ℕ) → Contains (cuts xs) number → HasCut xs number
cuts_have [] number h = absurd (let b = h.1 in omega arith)
cuts_have (x ∷ xs) number h =
    elim (bool_cases (is_cut x xs)) [
      | inl here ↦
          (let w : cuts (x ∷ xs) ≡ x.number ∷ cuts xs = ap (λ (b : Bool). cond b (x.number ∷ cuts xs) (cuts xs)) here in
          elim (contains_cases x.number number (cuts xs) (subst (λ (l : List ℕ). Contains l number) w h)) [
            | inl same ↦ (zero, x, refl, here, same)
            | inr more ↦ let r = cuts_have xs number more in (suc r.0, r.1, r.2, r.3, r.4)
          ])
      | inr not_here ↦
          (let w : cuts (x ∷ xs) ≡ cuts xs = ap (λ (b : Bool). cond b (x.number ∷ cuts xs) (cuts xs)) not_here in
          let r = cuts_have xs number (subst (λ (l : List ℕ). Contains l number) w h) in (suc r.0, r.1, r.2, r.3, r.4))
    ]

cut_in : (xs : List Event) (k : ℕ) (e : Event) → slice_get xs k ≡ Some e → is_cut e (drop (suc k) xs) ≡ true → Contains (cuts xs) e.number
cut_in [] k e h cut = cc
cut_in (x ∷ xs) zero e h cut =
    let same : x ≡ e = cc in
    let here : is_cut x xs ≡ true = ap (λ (y : Event). is_cut y xs) same ∙ cut in
    let w : cuts (x ∷ xs) ≡ x.number ∷ cuts xs = ap (λ (b : Bool). cond b (x.number ∷ cuts xs) (cuts xs)) here in
    subst (λ (l : List ℕ). Contains l e.number) (sym w) (zero, omega arith, ap (λ (y : Event). y.number) same)
cut_in (x ∷ xs) (suc k) e h cut =
    let later = cut_in xs k e h cut in
    elim (bool_cases (is_cut x xs)) [
      | inl here ↦
          (let w : cuts (x ∷ xs) ≡ x.number ∷ cuts xs = ap (λ (b : Bool). cond b (x.number ∷ cuts xs) (cuts xs)) here in
          subst (λ (l : List ℕ). Contains l e.number) (sym w) (suc later.0, omega (arith, later.1), later.2))
      | inr not_here ↦
          (let w : cuts (x ∷ xs) ≡ cuts xs = ap (λ (b : Bool). cond b (x.number ∷ cuts xs) (cuts xs)) not_here in
          subst (λ (l : List ℕ). Contains l e.number) (sym w) later)
    ]

-- each event's number is its place after the first
abbrev Numbered : ℕ → List Event → Type 0
Numbered first xs = (k : ℕ) (e : Event) → slice_get xs k ≡ Some e → e.number ≡ first + k

numbered_rest : (first : ℕ) (x : Event) (xs : List Event) → Numbered first (x ∷ xs) → Numbered (suc first) xs
numbered_rest first x xs own k e h = let w = own (suc k) e h in omega arith

cuts_above : (first : ℕ) (xs : List Event) → Numbered (suc first) xs → All (λ (number : ℕ). first < number) (cuts xs)
cuts_above first xs own = All-weaker (Contains (cuts xs)) (λ (number : ℕ). first < number) (λ number h. let r = cuts_have xs number h in let w = own r.0 r.1 r.2 in omega (arith, r.4)) (cuts xs) (All-contains_itself (cuts xs))

cuts_rise : (first : ℕ) (xs : List Event) → Numbered first xs → AllPairs (λ (a b : ℕ). a < b) (cuts xs)
cuts_rise first [] own = λ i j d b below. absurd (omega arith)
cuts_rise first (x ∷ xs) own =
    let later = cuts_rise (suc first) xs (numbered_rest first x xs own) in
    elim (bool_cases (is_cut x xs)) [
      | inl here ↦
          (let w : cuts (x ∷ xs) ≡ x.number ∷ cuts xs = ap (λ (b : Bool). cond b (x.number ∷ cuts xs) (cuts xs)) here in
          let first_is : x.number ≡ first = (let f = own zero x refl in omega arith) in
          let above = cuts_above x.number xs (λ k e h. let f = own (suc k) e h in omega arith) in
          subst (λ (l : List ℕ). AllPairs (λ (a b : ℕ). a < b) l) (sym w) (AllPairs-cons (λ (a b : ℕ). a < b) x.number (cuts xs) above later))
      | inr not_here ↦
          (let w : cuts (x ∷ xs) ≡ cuts xs = ap (λ (b : Bool). cond b (x.number ∷ cuts xs) (cuts xs)) not_here in
          subst (λ (l : List ℕ). AllPairs (λ (a b : ℕ). a < b) l) (sym w) later)
    ]

module _ (events : List Event) (own : (i : ℕ) (event : Event) → IsAt events i event → event.number ≡ i) where
  listed : (place : ℕ) → Contains (cuts events) place ↔ (IsLiveCut events place ⊎ IsRecordedCut events place)
  listed place = (
    λ h.
        let r = cuts_have events place h in
        let at = at_index events r.0 r.1 r.2 in
        let here : suc r.0 ≡ place = sym (own (suc r.0) r.1 at) ∙ r.4 in
        subst (λ (i : ℕ). IsLiveCut events i ⊎ IsRecordedCut events i) here (either_cut events (suc r.0) r.1 at r.3),
    λ said.
        let r = cut_either events place said in
        let k = index_of events place r.0 r.1 in
        let cut : is_cut r.0 (drop (suc k.0) events) ≡ true = subst (λ (i : ℕ). is_cut r.0 (drop i events) ≡ true) k.1 r.2 in
        subst (Contains (cuts events)) (own place r.0 r.1) (cut_in events k.0 r.0 k.2 cut),
  )

  in_order : IsStrictlyIncreasing (cuts events)
  in_order = λ k b. cuts_rise 1 events (λ j e h. let w = own (suc j) e (at_index events j e h) in omega arith) k (k + 1) 0 (omega arith) b

pub cuts_listed : (events : List Event) → ((i : ℕ) (event : Event) → IsAt events i event → event.number ≡ i)
    → ((place : ℕ) → Contains (cuts events) place ↔ (IsLiveCut events place ⊎ IsRecordedCut events place)) × IsStrictlyIncreasing (cuts events)
cuts_listed events own = (listed events own, in_order events own)
