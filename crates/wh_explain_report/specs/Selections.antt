-- Which tasks of an explanation are written.
use Rattle.std.specs.Prelude.{ℕ, ◌+◌, ◌-◌, List, length, take, drop, nat_lt, count_by, Option, Some, None}
use Rattle.std.specs.List.{filter}
use Rattle.wh_console.specs.declared.selection.Selection.{Selection}
use Rattle.wh_console.specs.declared.selection.Selection.TheVariants.{All, Last, Around}
use Rattle.wh_explained_tasks.specs.declared.ExplainedTask.{ExplainedTask}
use Rattle.wh_explain_report.specs.Sharing.{shares}

-- how many tasks start before the event of a number
abbrev pub started_before : ℕ → List ExplainedTask → ℕ
started_before number tasks = count_by (λ task. nat_lt task.at number) tasks

-- the task at an index, with the two before and the two after it
abbrev pub around : ℕ → List ExplainedTask → List ExplainedTask
around index tasks = drop (index - 2) (take (index + 3) tasks)

-- all tasks, the last so many, or the first that starts at the event of the number or after it, with the two before and
-- the two after it: these include the task that was activated with the event, and the task whose command it records
abbrev pub selected : Selection → List ExplainedTask → List ExplainedTask
selected All tasks = tasks
selected (Last count) tasks = drop (length tasks - count) tasks
selected (Around number) tasks = around (started_before number tasks) tasks

-- the tasks that are selected, or all if nothing is selected
abbrev pub selected_or_all : Option Selection → List ExplainedTask → List ExplainedTask
selected_or_all None tasks = tasks
selected_or_all (Some selection) tasks = selected selection tasks

-- the tasks before one with a fault that share its things; the last four of them are shown
abbrev pub sharing : ExplainedTask → List ExplainedTask → List ExplainedTask
sharing fault before = filter (shares fault) before

-- how many of these are not shown
abbrev pub skipped : ExplainedTask → List ExplainedTask → ℕ
skipped fault before = length (sharing fault before) - 4

-- those of them that are shown
abbrev pub shown_before : ExplainedTask → List ExplainedTask → List ExplainedTask
shown_before fault before = drop (skipped fault before) (sharing fault before)

-- how many of the tasks before it are not shown
abbrev pub left_before : ExplainedTask → List ExplainedTask → ℕ
left_before fault before = length before - length (shown_before fault before)
