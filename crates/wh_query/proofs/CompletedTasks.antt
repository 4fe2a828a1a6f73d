-- The completed part of a history, one event after another, and the tasks that it has.
use Rattle.std.proofs.Common.{◌≡◌, ◌≤◌, ◌<◌, ◌+◌, ℕ, suc, Bool, true, false, cond, List, [], ◌∷◌, ◌++◌, length, take, refl, sym, ap, subst, ◌∙◌, arith}
use Rattle.std.specs.Prelude.{◌&&◌, ◌||◌, not, Option, Some, None}
use Rattle.std.specs.List.{list_any}
use Rattle.std.specs.Bool.{◌==◌}
use Rattle.std.proofs.lemmas.Bool.{eqb-true, eqb-false}
use Rattle.std.proofs.lemmas.List.{length-take-le}
use Rattle.std.proofs.Math.ListN.{get_or}
use Rattle.std.proofs.Math.Seq.{take-suc}
use Rattle.wh_events.specs.declared.event.Event.{Event}
use Rattle.wh_events.specs.declared.kind.EventKind.{EventKind}
use Rattle.wh_events.specs.declared.kind.EventKind.TheVariants.{Inert}
use Rattle.wh_events.specs.Kinds.{class_of}
use Rattle.wh_events.specs.Cuts.{cuts, completes, is_cut, is_inert, is_inert_class, is_recorded, is_task_completed, is_task_completed_kind, is_task_started, is_task_started_kind, lets_cut, next_core}
use Rattle.wh_events.proofs.Cutting.{completes_kind}
use Rattle.wh_query.specs.Completed.{starts_last, completed_part, completed_cuts, extends, HasCompletedTasks}

or_true : (b : Bool) → (b || true) ≡ true
or_true true = refl
or_true false = refl

and_false : (b : Bool) → (b && false) ≡ false
and_false true = refl
and_false false = refl

same_and : (b : Bool) → b ≡ (b && b)
same_and true = refl
same_and false = refl

not_both : (b : Bool) → b ≡ true → b ≡ false → ⊥
not_both true e f = cc
not_both false e f = cc

-- ---- One event more

any_completed : (xs : List Event) (event : Event) → is_task_completed event ≡ true → list_any is_task_completed (xs ++ event ∷ []) ≡ true
any_completed [] event e = rw e refl
any_completed (x ∷ xs) event e = rw (any_completed xs event e) (or_true (is_task_completed x))

any_other : (xs : List Event) (event : Event) → is_task_completed event ≡ false
    → list_any is_task_completed (xs ++ event ∷ []) ≡ list_any is_task_completed xs
any_other [] event e = rw e refl
any_other (x ∷ xs) event e = ap (λ (b : Bool). is_task_completed x || b) (any_other xs event e)

not_started : (event : Event) → is_task_completed event ≡ true → is_task_started event ≡ false
not_started event e = ap is_task_started_kind (completes_kind event.body e)

-- a completed task: all is part of it
with_completed : (xs : List Event) (event : Event) → is_task_completed event ≡ true → completed_part (xs ++ event ∷ []) ≡ xs ++ event ∷ []
with_completed [] event e = rw (not_started event e) refl
with_completed (x ∷ xs) event e =
    rw (any_completed xs event e, and_false (is_task_started x)) (ap (λ (rest : List Event). x ∷ rest) (with_completed xs event e))

-- one that is not completed: it is part of it where all before it is, and no task starts with it
with_other : (xs : List Event) (event : Event) (whole : Bool) → is_task_completed event ≡ false
    → (whole ≡ true → completed_part xs ≡ xs) → (whole ≡ false → length (completed_part xs) < length xs)
    → completed_part (xs ++ event ∷ []) ≡ cond (whole && not (is_task_started event)) (xs ++ event ∷ []) (completed_part xs)
with_other [] event true other all part = by (is_task_started event)
  where
    by : (b : Bool) → cond (b && true) [] (event ∷ []) ≡ cond (not b) (event ∷ []) []
    by true = refl
    by false = refl
with_other [] event false other all part = let less = part refl in absurd (omega (arith, less))
with_other (x ∷ xs) event whole other all part = (elim (starts_last x xs) as (λ t. starts_last x xs ≡ t → completed_part ((x ∷ xs) ++ event ∷ []) ≡ cond (whole && not (is_task_started event)) ((x ∷ xs) ++ event ∷ []) (completed_part (x ∷ xs))) [
  | true ↦ λ h. rw (any_other xs event other, h) (stopped whole h all)
  | false ↦ λ h. rw (any_other xs event other, h)
      (ap (λ (rest : List Event). x ∷ rest) (with_other xs event whole other (λ e. tail_same (going h ∙ all e)) (λ e. tail_less (subst (λ (l : List Event). length l < suc (length xs)) (sym (going h)) (part e))))
      ∙ inside (whole && not (is_task_started event)))
]) refl
  where
    going : starts_last x xs ≡ false → x ∷ completed_part xs ≡ completed_part (x ∷ xs)
    going h = rw h refl

    tail_same : x ∷ completed_part xs ≡ x ∷ xs → completed_part xs ≡ xs
    tail_same e = cc

    tail_less : suc (length (completed_part xs)) < suc (length xs) → length (completed_part xs) < length xs
    tail_less e = omega (arith, e)

    inside : (b : Bool) → x ∷ cond b (xs ++ event ∷ []) (completed_part xs) ≡ cond b (x ∷ (xs ++ event ∷ [])) (x ∷ completed_part xs)
    inside true = refl
    inside false = refl

    stopped : (w : Bool) → starts_last x xs ≡ true → (w ≡ true → completed_part (x ∷ xs) ≡ x ∷ xs)
        → [] ≡ cond (w && not (is_task_started event)) (x ∷ (xs ++ event ∷ [])) []
    stopped true h e = let none : [] ≡ x ∷ xs = sym (rw h refl) ∙ e refl in cc
    stopped false h e = refl

-- one event more, whatever it is
pub one_more : (xs : List Event) (event : Event) (whole : Bool)
    → (whole ≡ true → completed_part xs ≡ xs) → (whole ≡ false → length (completed_part xs) < length xs)
    → completed_part (xs ++ event ∷ []) ≡ cond (extends event whole) (xs ++ event ∷ []) (completed_part xs)
one_more xs event whole all part = (elim (is_task_completed event) as (λ t. is_task_completed event ≡ t → completed_part (xs ++ event ∷ []) ≡ cond (extends event whole) (xs ++ event ∷ []) (completed_part xs)) [
  | true ↦ λ h. rw h (with_completed xs event h)
  | false ↦ λ h. rw h (with_other xs event whole h all part)
]) refl

module _ (events : List Event) (end place : ℕ) (event : Event) (within : end ≤ place) (inside : place < length events)
    (here : event ≡ get_or events place event) (so_far : take end events ≡ completed_part (take place events)) where
  longer : take (place + 1) events ≡ take place events ++ event ∷ []
  longer = let one : place + 1 ≡ suc place = omega arith in ap (λ (n : ℕ). take n events) one ∙ take-suc events place event inside ∙ ap (λ (x : Event). take place events ++ x ∷ []) (sym here)

  all_of_it : (end == place) ≡ true → completed_part (take place events) ≡ take place events
  all_of_it e = sym so_far ∙ ap (λ (n : ℕ). take n events) (eqb-true end place e)

  part_of_it : (end == place) ≡ false → length (completed_part (take place events)) < length (take place events)
  part_of_it e =
      let apart = eqb-false end place e in
      let of_part = sym (ap length so_far) ∙ length-take-le end events (omega (arith, within, inside)) in
      let of_all = length-take-le place events (omega (arith, inside)) in
      rw (of_part, of_all) (omega (arith, within, apart))

  next : completed_part (take (place + 1) events) ≡ cond (extends event (end == place)) (take (place + 1) events) (take end events)
  next = ap completed_part longer ∙ one_more (take place events) event (end == place) all_of_it part_of_it
      ∙ ap (λ (l : List Event). cond (extends event (end == place)) l (completed_part (take place events))) (sym longer)
      ∙ ap (λ (l : List Event). cond (extends event (end == place)) (take (place + 1) events) l) (sym so_far)

  -- the event is part of it
  pub grows : true ≡ extends event (end == place) → take (place + 1) events ≡ completed_part (take (place + 1) events)
  grows e = sym (next ∙ ap (λ (b : Bool). cond b (take (place + 1) events) (take end events)) (sym e))

  -- it is not
  pub stays : false ≡ extends event (end == place) → take end events ≡ completed_part (take (place + 1) events)
  stays e = sym (next ∙ ap (λ (b : Bool). cond b (take (place + 1) events) (take end events)) (sym e))

-- ---- Which tasks are part of it

inert_kind : (kind : EventKind) → is_inert_class (class_of kind) ≡ true → kind ≡ Inert
inert_kind Inert e = refl
inert_kind _ e = cc

inert_is_other : (event : Event) → is_inert event ≡ true → is_task_completed event ≡ false
inert_is_other event e = ap is_task_completed_kind (inert_kind event.body e)

no_record : (xs : List Event) → list_any is_task_completed xs ≡ false → is_recorded xs ≡ false
no_record [] e = refl
no_record (x ∷ xs) e = (elim (is_task_completed x) as (λ t. is_task_completed x ≡ t → (t || list_any is_task_completed xs) ≡ false → is_recorded (x ∷ xs) ≡ false) [
  | true ↦ λ h f. cc
  | false ↦ λ h f. (elim (is_inert x) as (λ t. is_inert x ≡ t → is_recorded (x ∷ xs) ≡ false) [
    | true ↦ λ i. rw i (no_record xs f)
    | false ↦ λ i. rw i h
  ]) refl
]) refl e

-- none, where no task is completed
no_cuts : (xs : List Event) → list_any is_task_completed xs ≡ false → completed_cuts xs ≡ []
no_cuts [] e = refl
no_cuts (x ∷ xs) e = (elim (is_task_completed x) as (λ t. is_task_completed x ≡ t → (t || list_any is_task_completed xs) ≡ false → completed_cuts (x ∷ xs) ≡ []) [
  | true ↦ λ h f. cc
  | false ↦ λ h f. rw (no_record xs f, and_false (is_cut x xs)) (no_cuts xs f)
]) refl e

no_more_cuts : (xs : List Event) → list_any is_task_completed xs ≡ false → cuts (completed_part xs) ≡ []
no_more_cuts [] e = refl
no_more_cuts (x ∷ xs) e = (elim (is_task_completed x) as (λ t. is_task_completed x ≡ t → (t || list_any is_task_completed xs) ≡ false → cuts (completed_part (x ∷ xs)) ≡ []) [
  | true ↦ λ h f. cc
  | false ↦ λ h f. (elim (is_task_started x) as (λ t. is_task_started x ≡ t → cuts (completed_part (x ∷ xs)) ≡ []) [
    | true ↦ λ i. rw (i, f) refl
    | false ↦ λ i. rw (i, i) (no_more_cuts xs f)
  ]) refl
]) refl e

-- the next core event, where a task is completed later on
same_core : (xs : List Event) → list_any is_task_completed xs ≡ true → next_core (completed_part xs) ≡ next_core xs
same_core [] e = cc
same_core (x ∷ xs) e = (elim (is_inert x) as (λ t. is_inert x ≡ t → next_core (completed_part (x ∷ xs)) ≡ next_core (x ∷ xs)) [
  | true ↦ λ i.
      let later : list_any is_task_completed xs ≡ true = sym (ap (λ (b : Bool). b || list_any is_task_completed xs) (inert_is_other x i)) ∙ e in
      rw (later, and_false (is_task_started x), i) (same_core xs later)
  | false ↦ λ i. (elim (starts_last x xs) as (λ t. starts_last x xs ≡ t → next_core (completed_part (x ∷ xs)) ≡ next_core (x ∷ xs)) [
    | true ↦ λ h. absurd (no_start x xs h e)
    | false ↦ λ h. rw (h, i) refl
  ]) refl
]) refl
  where
    no_start : (x : Event) (xs : List Event) → starts_last x xs ≡ true → (is_task_completed x || list_any is_task_completed xs) ≡ true → ⊥
    no_start x xs h e = (elim (is_task_completed x) as (λ t. is_task_completed x ≡ t → (t || list_any is_task_completed xs) ≡ true → ⊥) [
      | true ↦ λ i f. not_both (starts_last x xs) h (ap (λ (b : Bool). b && not (list_any is_task_completed xs)) (not_started x i))
      | false ↦ λ i f. not_both (starts_last x xs) h (ap (λ (b : Bool). is_task_started x && not b) f ∙ and_false (is_task_started x))
    ]) refl e

some_core : (xs : List Event) → list_any is_task_completed xs ≡ true → lets_cut (next_core xs) ≡ completes (next_core xs)
some_core [] e = cc
some_core (x ∷ xs) e = (elim (is_inert x) as (λ t. is_inert x ≡ t → lets_cut (next_core (x ∷ xs)) ≡ completes (next_core (x ∷ xs))) [
  | true ↦ λ i.
      let later : list_any is_task_completed xs ≡ true = sym (ap (λ (b : Bool). b || list_any is_task_completed xs) (inert_is_other x i)) ∙ e in
      rw i (some_core xs later)
  | false ↦ λ i. rw i refl
]) refl

two_tests : (a b c : Bool) → b ≡ c → (a && b) ≡ ((a && b) && c)
two_tests true true c e = e
two_tests true false c e = refl
two_tests false b c e = refl

-- a cut of the part is one whose task is completed
same_cut : (event : Event) (rest : List Event) → list_any is_task_completed rest ≡ true
    → is_cut event (completed_part rest) ≡ (is_cut event rest && is_recorded rest)
same_cut event rest e =
    ap (λ (o : Option Event). is_task_started event && lets_cut o) (same_core rest e)
    ∙ two_tests (is_task_started event) (lets_cut (next_core rest)) (is_recorded rest) (some_core rest e)

pub has_completed_tasks : HasCompletedTasks
has_completed_tasks [] = refl
has_completed_tasks (event ∷ rest) = (elim (list_any is_task_completed rest) as (λ t. list_any is_task_completed rest ≡ t → cuts (completed_part (event ∷ rest)) ≡ completed_cuts (event ∷ rest)) [
  | true ↦ λ h. rw (h, and_false (is_task_started event)) (among (is_cut event (completed_part rest)) (is_cut event rest && is_recorded rest) (same_cut event rest h) (has_completed_tasks rest))
  | false ↦ λ h. last h
]) refl
  where
    among : (a b : Bool) → a ≡ b → cuts (completed_part rest) ≡ completed_cuts rest
        → cond a (event.number ∷ cuts (completed_part rest)) (cuts (completed_part rest)) ≡ cond b (event.number ∷ completed_cuts rest) (completed_cuts rest)
    among a b e same = ap (λ (t : Bool). cond t (event.number ∷ cuts (completed_part rest)) (cuts (completed_part rest))) e ∙ ap (λ (l : List ℕ). cond b (event.number ∷ l) l) same

    later_cuts : list_any is_task_completed rest ≡ false → completed_cuts (event ∷ rest) ≡ []
    later_cuts h = rw (no_record rest h, and_false (is_cut event rest)) (no_cuts rest h)

    no_cut : list_any is_task_completed rest ≡ false → cuts (completed_part (event ∷ rest)) ≡ []
    no_cut h = (elim (is_task_started event) as (λ t. is_task_started event ≡ t → cuts (completed_part (event ∷ rest)) ≡ []) [
      | true ↦ λ i. rw (i, h) refl
      | false ↦ λ i. rw (i, i) (no_more_cuts rest h)
    ]) refl

    last : list_any is_task_completed rest ≡ false → cuts (completed_part (event ∷ rest)) ≡ completed_cuts (event ∷ rest)
    last h = no_cut h ∙ sym (later_cuts h)
