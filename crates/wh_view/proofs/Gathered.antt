-- Events are gathered one by one.
use Rattle.std.proofs.Common.{◌≡◌, ℕ, ◌+◌, ◌<◌, ◌≤◌, Bool, true, false, cond, List, [], ◌∷◌, ◌++◌, length, get_or, drop, add-one, refl, sym, ap, ◌∙◌, append_assoc, append-nil, drop_of_length-le}
use Rattle.std.proofs.Math.Seq.{drop-cons}
use Rattle.wh_view.specs.declared.view.ViewedEvent.{ViewedEvent}
use Rattle.wh_view.specs.Things.{Gathered, gathered_from, with_event}
use Rattle.wh_view.specs.Views.{tasks_from, task_of, completed_with}

pub gather_more : (events : List ViewedEvent) (i : ℕ) (event : ViewedEvent) (g : Gathered) → i < length events → event ≡ get_or events i event
    → gathered_from i (drop i events) g ≡ gathered_from (i + 1) (drop (i + 1) events) (with_event i event g)
unfolding gathered_from
gather_more events i event g below is =
    let e : drop i events ≡ get_or events i event ∷ drop (i + 1) events = rw (add-one, drop-cons events i event) refl in
    ap (λ rest. gathered_from i rest g) e ∙ ap (λ one. gathered_from (i + 1) (drop (i + 1) events) (with_event i one g)) (sym is)

pub gather_all : (events : List ViewedEvent) (i : ℕ) (g : Gathered) → length events ≤ i → gathered_from i (drop i events) g ≡ g
unfolding gathered_from
gather_all events i g past = ap (λ rest. gathered_from i rest g) (drop_of_length-le events past)

pub task_more : (events : List ViewedEvent) (i completed : ℕ) (event : ViewedEvent) (before grown : List ℕ) → i < length events → event ≡ get_or events i event
    → grown ≡ before ++ task_of completed event ∷ []
    → grown ++ tasks_from (completed_with completed event) (drop (i + 1) events) ≡ before ++ tasks_from completed (drop i events)
unfolding tasks_from
task_more events i completed event before grown below is more =
    let e : drop i events ≡ get_or events i event ∷ drop (i + 1) events = rw (add-one, drop-cons events i event) refl in
    let at : tasks_from completed (drop i events) ≡ task_of completed event ∷ tasks_from (completed_with completed event) (drop (i + 1) events) =
    ap (tasks_from completed) e ∙ ap (λ one. task_of completed one ∷ tasks_from (completed_with completed one) (drop (i + 1) events)) (sym is) in
    ap (λ xs. xs ++ tasks_from (completed_with completed event) (drop (i + 1) events)) more
    ∙ append_assoc before (task_of completed event ∷ []) (tasks_from (completed_with completed event) (drop (i + 1) events))
    ∙ ap (λ xs. before ++ xs) (sym at)

pub task_all : (events : List ViewedEvent) (i completed : ℕ) (before : List ℕ) → length events ≤ i
    → before ++ tasks_from completed (drop i events) ≡ before
unfolding tasks_from
task_all events i completed before past = ap (λ rest. before ++ tasks_from completed rest) (drop_of_length-le events past) ∙ append-nil before
