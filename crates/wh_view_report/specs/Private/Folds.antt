-- How tasks are folded one after the other, by the indices of their events.
use Rattle.std.specs.Prelude.{ℕ, ◌+◌, ◌==◌, ◌≤◌, List, [], ◌∷◌, ◌++◌, Bool, false, slice_range, Option, Some, None, if◌then◌else◌}
use Rattle.wh_view.specs.Lookups.{task_of}
use Rattle.wh_view.specs.declared.view.View.{View}
use Rattle.wh_view.specs.declared.view.ViewedEvent.{ViewedEvent}
use Rattle.wh_view_report.specs.Folding.{Task, fold_text, task_text}
use Rattle.wh_view_report.specs.declared.begins.Begins.{Begins}
use Rattle.wh_view_report.specs.declared.folding.Fold.{Fold}

-- there is an event, and it belongs to the task of the number
abbrev pub belongs : View → ℕ → Option ViewedEvent → Bool
belongs view number None = false
belongs view number (Some event) = task_of view event == number

-- tasks before an index begin in the order in which they are numbered
pub record AreInOrder (begins : Begins) (at : ℕ) : Type 0 where
  pub last : begins.last ≤ at
  pub second : begins.second ≤ begins.last
  pub third : begins.third ≤ begins.second
  pub fourth : begins.fourth ≤ begins.third

-- the last four tasks before an index, the last one first
abbrev pub ranges : List ViewedEvent → Begins → (at : ℕ) → List Task
ranges events begins at =
    slice_range events begins.last at ∷ slice_range events begins.second begins.last
    ∷ slice_range events begins.third begins.second ∷ slice_range events begins.fourth begins.third ∷ []

-- the line for the tasks before one that are not shown, and this one, unless it repeats one of them
abbrev pub text_unless : (repeats : Bool) → View → (tasks : ℕ) → List ViewedEvent → Task → List ℕ
text_unless repeats view tasks events task =
    if repeats then [] else fold_text view tasks events ++ task_text view task

-- the tasks that are not shown, when a task has been passed that ends at the index
abbrev pub fold_with : (repeats : Bool) → Fold → (end : ℕ) → Fold
fold_with repeats fold end =
    if repeats then record { tasks = fold.tasks + 1; start = fold.start } else record { tasks = 0; start = end }
