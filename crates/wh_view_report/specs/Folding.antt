-- The text of a view whose tasks are folded: of tasks that repeat others a line tells how many they are.
use Rattle.std.specs.Prelude.{ℕ, ◌-◌, ◌==◌, List, [], ◌∷◌, ◌++◌, Bool, codes, decimal, length, take, slice_get, Option, Some, None, if◌then◌else◌}
use Rattle.std.specs.List.{flat_map, list_any}
use Rattle.wh_view.specs.Lookups.{task_of}
use Rattle.wh_view.specs.declared.view.View.{View}
use Rattle.wh_view.specs.declared.view.ViewedEvent.{ViewedEvent}
use Rattle.wh_view_report.specs.Alike.{alike_tasks}
use Rattle.wh_view_report.specs.Texts.{bottom_text, event_text, is_quiet, top_text}
use Rattle.wh_view_report.specs.Words.{number_text}

-- the events of a task, in the order of the history
abbrev pub Task : Type 0
Task = List ViewedEvent

-- the tasks to which events belong, if those of the first one, of this number, are known so far
unfoldable pub split_from : View → (number : ℕ) → (first : Task) → List ViewedEvent → List Task
split_from view number first [] = first ∷ []
split_from view number first (event ∷ events) =
    if task_of view event == number then split_from view number (first ++ event ∷ []) events
    else first ∷ split_from view (task_of view event) (event ∷ []) events

-- the tasks to which events belong: neighbours of the same task stand together
abbrev pub tasks_in : View → List ViewedEvent → List Task
tasks_in view [] = []
tasks_in view (event ∷ events) = split_from view (task_of view event) (event ∷ []) events

-- a task repeats one of the four before it, of which the last one comes first
abbrev pub repeats : View → (before : List Task) → Task → Bool
repeats view before task = list_any (alike_tasks view task) (take 4 before)

-- a task that is shown, or tasks that are not, each of which repeats one before it
pub data Part : Type 0 where
  Shown : Task → Part
  Folded : List Task → Part

-- tasks that are not shown, if there are some
abbrev pub folded_part : List Task → List Part
folded_part [] = []
folded_part (task ∷ tasks) = Folded (task ∷ tasks) ∷ []

-- the parts of tasks, with the tasks before them, the last one first, and the last of those as far as they are folded
unfoldable pub parts_from : View → (before folded : List Task) → List Task → List Part
parts_from view before folded [] = folded_part folded
parts_from view before folded (task ∷ tasks) =
    if repeats view before task then parts_from view (task ∷ before) (folded ++ task ∷ []) tasks
    else folded_part folded ++ (Shown task ∷ parts_from view (task ∷ before) [] tasks)

-- the parts of a view: each task is shown, unless it repeats one of the four before it
abbrev pub parts_of : View → List Part
parts_of view = parts_from view [] [] (tasks_in view view.events)

-- the events of tasks
abbrev pub events_of : List Task → List ViewedEvent
events_of tasks = flat_map (λ task. task) tasks

-- the events of a part
abbrev pub part_events : Part → List ViewedEvent
part_events (Shown task) = task
part_events (Folded tasks) = events_of tasks

-- the lines of an event of a task that is shown
abbrev pub told_text : View → ViewedEvent → List ℕ
told_text view event = if is_quiet event then [] else event_text view event

-- the lines of a task
abbrev pub task_text : View → Task → List ℕ
task_text view task = flat_map (told_text view) task

-- the line for so many tasks that are not shown, and so many events of them, the last of which is this one
unfoldable pub fold_line : View → (tasks events : ℕ) → ViewedEvent → List ℕ
fold_line view tasks events last =
    decimal tasks ++ (codes " more tasks, up to task " ++ (decimal (task_of view last) ++ (codes " "
    ++ (number_text last ++ (codes ", repeat tasks before them but for ids, numbers, times and values: "
    ++ (decimal events ++ codes " events, which --all shows\n"))))))

-- that line, if there is a last event
abbrev pub fold_by : View → (tasks events : ℕ) → Option ViewedEvent → List ℕ
fold_by view tasks events None = []
fold_by view tasks events (Some last) = fold_line view tasks events last

-- the line for so many tasks that are not shown, which have these events
abbrev pub fold_text : View → (tasks : ℕ) → List ViewedEvent → List ℕ
fold_text view tasks events = fold_by view tasks (length events) (slice_get events (length events - 1))

-- the lines of a part
abbrev pub part_text : View → Part → List ℕ
part_text view (Shown task) = task_text view task
part_text view (Folded tasks) = fold_text view (length tasks) (events_of tasks)

-- the lines of the tasks
unfoldable pub parts_text : View → List ℕ
parts_text view = flat_map (part_text view) (parts_of view)

-- the text below the first lines
abbrev pub below_text : View → List ℕ
below_text view = parts_text view ++ bottom_text view

-- the whole text
unfoldable pub folded_text : View → List ℕ
folded_text view = top_text view ++ below_text view
