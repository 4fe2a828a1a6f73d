-- The record of a cut is what stands between two completed tasks.
use Rattle.std.proofs.Common.{◌≡◌, ◌↔◌, Bool, true, false, cond, List, [], ◌∷◌, ◌++◌, refl, sym, ap, subst, ◌∙◌, inl, inr, filter}
use Rattle.std.proofs.lemmas.List.Elements.{All-nil, All-cons, All-head, All-tail}
use Rattle.std.proofs.lemmas.List.{append-nil}
use Rattle.wh_events.specs.declared.event.Event.{Event}
use Rattle.wh_events.specs.declared.kind.EventKind.TheVariants.{WorkflowTaskCompleted}
use Rattle.wh_events.specs.Cuts.{is_task_completed_kind, is_task_completed, is_commanded, until_completed, after_completed, commanded, record_of}
use Rattle.wh_events.specs.Tasks.{CompletesNone, EndsOrCompletes, IsRecord}
use Rattle.wh_events.proofs.Placing.{bool_cases}
use Rattle.wh_events.proofs.Cutting.{completes_kind}

-- the event completes no task
abbrev Other : Event → Type 0
Other event = ¬ (event.body ≡ WorkflowTaskCompleted)

no_completed : (event : Event) → Other event → is_task_completed event ≡ false
no_completed event other = elim (bool_cases (is_task_completed event)) [ inl is ↦ absurd (other (completes_kind event.body is)) | inr not_it ↦ not_it ]

is_other : (event : Event) → is_task_completed event ≡ false → Other event
is_other event not_it is = let w : is_task_completed event ≡ true = ap is_task_completed_kind is in cc

commanded-filter : (xs : List Event) → commanded xs ≡ filter is_commanded xs
commanded-filter [] = refl
commanded-filter (x ∷ xs) = ap (λ (l : List Event). cond (is_commanded x) (x ∷ l) l) (commanded-filter xs)

-- where no task is completed, nothing stands after one
after_none : (xs : List Event) → CompletesNone xs → after_completed xs ≡ []
after_none [] none = refl
after_none (x ∷ xs) none =
    ap (λ (b : Bool). cond b xs (after_completed xs)) (no_completed x (All-head Other x xs none)) ∙ after_none xs (All-tail Other x xs none)

after_first : (before more : List Event) (completed : Event) → CompletesNone before → completed.body ≡ WorkflowTaskCompleted → after_completed (before ++ completed ∷ more) ≡ more
after_first [] more completed none is = ap (λ (b : Bool). cond b more (after_completed more)) (ap is_task_completed_kind is)
after_first (x ∷ before) more completed none is =
    ap (λ (b : Bool). cond b (before ++ completed ∷ more) (after_completed (before ++ completed ∷ more))) (no_completed x (All-head Other x before none)) ∙ after_first before more completed (All-tail Other x before none) is

until_ends : (after : List Event) → EndsOrCompletes after → until_completed after ≡ []
until_ends [] ends = refl
until_ends (x ∷ after) ends = ap (λ (b : Bool). cond b [] (x ∷ until_completed after)) (ap is_task_completed_kind ends)

until_next : (between after : List Event) → CompletesNone between → EndsOrCompletes after → until_completed (between ++ after) ≡ between
until_next [] after none ends = until_ends after ends
until_next (x ∷ between) after none ends =
    ap (λ (b : Bool). cond b [] (x ∷ until_completed (between ++ after))) (no_completed x (All-head Other x between none)) ∙ ap (λ (l : List Event). x ∷ l) (until_next between after (All-tail Other x between none) ends)

said_record : (rest record_events : List Event) → IsRecord rest record_events → record_of rest ≡ record_events
said_record rest record_events said =
    elim said [
      | inl none ↦ ap (λ (l : List Event). commanded (until_completed l)) (after_none rest none.0) ∙ sym none.1
      | inr some ↦
          (let split = some.1 in
          ap record_of split.whole
          ∙ (ap (λ (l : List Event). commanded (until_completed l)) (after_first split.before (some.0 ++ split.after) split.completed split.first split.completes)
          ∙ (ap commanded (until_next some.0 split.after split.stays split.ends) ∙ (commanded-filter some.0 ∙ sym some.2))))
    ]

-- a list goes on without a completed task up to one or the end
abbrev Runs : List Event → Type 0
Runs xs = (between : List Event) × (after : List Event) × (xs ≡ between ++ after) × CompletesNone between × EndsOrCompletes after

runs : (xs : List Event) → Runs xs
runs [] = ([], [], refl, All-nil Other, tt)
runs (x ∷ xs) =
    elim (bool_cases (is_task_completed x)) [
      | inl is ↦ ([], x ∷ xs, refl, All-nil Other, completes_kind x.body is)
      | inr not_it ↦ let r = runs xs in (x ∷ r.0, r.1, ap (λ (l : List Event). x ∷ l) r.2, All-cons Other x r.0 (is_other x not_it) r.3, r.4)
    ]

record_there : (rest between after : List Event) → rest ≡ between ++ after → CompletesNone between → EndsOrCompletes after → (record_events : List Event) × IsRecord rest record_events
record_there rest between [] whole none ends = ([], inl (subst CompletesNone (sym (whole ∙ append-nil between)) none, refl))
record_there rest between (x ∷ after) whole none ends =
    let r = runs after in (
      filter is_commanded r.0,
      inr (
        r.0,
        record {
          before = between;
          completed = x;
          after = r.1;
          whole = whole ∙ ap (λ (l : List Event). between ++ x ∷ l) r.2;
          first = none;
          completes = ends;
          stays = r.3;
          ends = r.4;
        },
        refl,
      ),
    )

pub record_said : (rest record_events : List Event) → (record_of rest ≡ record_events) ↔ IsRecord rest record_events
record_said rest record_events = (
  λ e.
      let r = runs rest in
      let there = record_there rest r.0 r.1 r.2 r.3 r.4 in
      subst (IsRecord rest) (sym (said_record rest there.0 there.1) ∙ e) there.1,
  said_record rest record_events,
)
