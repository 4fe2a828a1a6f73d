-- The text of the tasks of an explanation: which are written, and which are folded.
use Rattle.std.specs.Prelude.{ℕ, ◌+◌, ◌-◌, ◌==◌, List, [], ◌∷◌, ◌++◌, length, take, codes, decimal, Bool, true, false, Option, Some, None, if◌then◌else◌}
use Rattle.std.specs.List.{flat_map}
use Rattle.wh_console.specs.declared.selection.Selection.{Selection}
use Rattle.wh_explained_tasks.specs.declared.ExplainedTask.{ExplainedTask}
use Rattle.wh_explain.specs.Differences.{last_of}
use Rattle.wh_explain_report.specs.Alike.{alike_tasks}
use Rattle.wh_explain_report.specs.Selections.{left_before, selected, shown_before}
use Rattle.wh_explain_report.specs.Texts.{task_text}

-- how many tasks are left out, if some are
abbrev pub left_line : ℕ → List ℕ
left_line left =
    if left == 0 then []
    else decimal left ++ codes " tasks are left out: --all shows them, --last N or --around EVENT some of them\n"

-- the tasks that are selected
abbrev pub selected_text : Selection → List ExplainedTask → List ℕ
selected_text selection tasks =
    left_line (length tasks - length (selected selection tasks)) ++ flat_map task_text (selected selection tasks)

-- a task, unless more are to be left out
abbrev pub text_unless : (left : ℕ) → ExplainedTask → List ℕ
text_unless left task = if left == 0 then task_text task else []

-- the tasks before one with a fault that share its things
unfoldable pub before_text : ExplainedTask → List ExplainedTask → List ℕ
before_text fault before =
    left_line (left_before fault before) ++ flat_map task_text (shown_before fault before)

-- the last task, which has the fault, after those that share its things
abbrev pub faulty_by : List ExplainedTask → Option ExplainedTask → List ℕ
faulty_by tasks None = []
faulty_by tasks (Some fault) = before_text fault (take (length tasks - 1) tasks) ++ task_text fault

-- the last task, after those that share its things
abbrev pub faulty_text : List ExplainedTask → List ℕ
faulty_text tasks = faulty_by tasks (last_of tasks)

-- how many tasks up to this one are alike, if some are
abbrev pub fold_line : ℕ → ExplainedTask → List ℕ
fold_line count task =
    if count == 0 then []
    else decimal count ++ (codes " more tasks, up to that at " ++ (decimal task.at
    ++ codes ", are alike but for numbers and times\n"))

-- how many tasks are alike, and then the next task, if it is not like the one before it
abbrev pub unlike_text : (alike : Bool) → ℕ → (before task : ExplainedTask) → List ℕ
unlike_text alike count before task = if alike then [] else fold_line count before ++ task_text task

-- how many tasks are alike, with one more
abbrev pub next_count : (alike : Bool) → ℕ → ℕ
next_count alike count = if alike then count + 1 else 0

-- tasks after one; the last `count` tasks up to that one are not written, because each is like the one before it
unfoldable pub folded_from : ExplainedTask → ℕ → List ExplainedTask → List ℕ
folded_from before count [] = fold_line count before
folded_from before count (task ∷ rest) =
    if alike_tasks before task then folded_from task (count + 1) rest
    else fold_line count before ++ (task_text task ++ folded_from task 0 rest)

-- all tasks, with alike ones folded
abbrev pub folded_text : List ExplainedTask → List ℕ
folded_text [] = []
folded_text (task ∷ rest) = task_text task ++ folded_from task 0 rest

-- the tasks that are selected; if nothing is selected, all tasks of a history without a fault, or else the task with
-- the fault, after those that share its things
abbrev pub chosen_text : Option Selection → (good : Bool) → List ExplainedTask → List ℕ
chosen_text (Some selection) good tasks = selected_text selection tasks
chosen_text None true tasks = folded_text tasks
chosen_text None false tasks = faulty_text tasks
