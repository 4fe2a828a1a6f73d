-- What holds of the parts of a view whose tasks are folded.
use Rattle.std.specs.Prelude.{ℕ, ◌≡◌, ◌<◌, List, [], ◌∷◌, ◌++◌, length, true, All, Contains}
use Rattle.std.specs.List.{flat_map}
use Rattle.wh_view.specs.declared.view.View.{View}
use Rattle.wh_view_report.specs.Alike.{alike_tasks}
use Rattle.wh_view_report.specs.Folding.{Task, Part, part_events, parts_of, tasks_in}
use Rattle.wh_view_report.specs.Folding.Part.{Shown, Folded}

-- nothing is lost: the parts have all events, each once and in their order, in a task that is shown, or in those that a
-- line tells of
abbrev pub PartsHaveAllEvents : Type 0
PartsHaveAllEvents = (view : View) → flat_map part_events (parts_of view) ≡ view.events

-- the tasks of a part, and of parts, in their order
abbrev pub part_tasks : Part → List Task
part_tasks (Shown task) = task ∷ []
part_tasks (Folded tasks) = tasks

abbrev pub tasks_of : List Part → List Task
tasks_of parts = flat_map part_tasks parts

-- one of these parts shows a task that is like the task
pub record IsLikeShown (view : View) (before : List Part) (task : Task) : Type 0 where
  pub shown : Task
  pub stands : Contains before (Shown shown)
  pub alike : alike_tasks view task shown ≡ true

-- one of the last four of these tasks is like the task
pub record IsLikeOneOfFour (view : View) (before : List Task) (task : Task) : Type 0 where
  pub earlier : List Task
  pub other : Task
  pub between : List Task
  pub stands : before ≡ earlier ++ other ∷ between
  pub near : length between < 4
  pub alike : alike_tasks view task other ≡ true

-- no task is lost or cut: the parts have all tasks, each once and in their order
abbrev pub PartsHaveAllTasks : Type 0
PartsHaveAllTasks = (view : View) → tasks_of (parts_of view) ≡ tasks_in view view.events

-- each task that is not shown is like one that is shown before it
abbrev pub FoldedAreLikeShown : Type 0
FoldedAreLikeShown =
    (view : View) (before after : List Part) (folded : List Task) → parts_of view ≡ before ++ Folded folded ∷ after
    → All (IsLikeShown view before) folded

-- a task that is not shown is like one of the four before it: one that is like none of them is shown
abbrev pub FoldedAreLikeOneOfFour : Type 0
FoldedAreLikeOneOfFour =
    (view : View) (before after : List Part) (first rest : List Task) (task : Task)
    → parts_of view ≡ before ++ Folded (first ++ task ∷ rest) ∷ after
    → IsLikeOneOfFour view (tasks_of before ++ first) task

-- a task that is shown is like none of the four before it
abbrev pub ShownAreLikeNoneOfFour : Type 0
ShownAreLikeNoneOfFour =
    (view : View) (before after : List Part) (task : Task) → parts_of view ≡ before ++ Shown task ∷ after
    → IsLikeOneOfFour view (tasks_of before) task → ⊥
