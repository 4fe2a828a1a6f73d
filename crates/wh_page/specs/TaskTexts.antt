-- The tasks of a run, what it waits for, and the notes.
use Rattle.std.specs.Prelude.{ℕ, ◌-◌, ◌==◌, Bool, true, false, min, if◌then◌else◌, Option, Some, None, unwrap_or, position, List, [], ◌∷◌, take, drop, codes, length}
use Rattle.wh_html.specs.declared.page.TaskLine.{TaskLine}
use Rattle.wh_html.specs.declared.page.Side.{Side}
use Rattle.wh_html.specs.declared.page.Side.TheVariants.{Told, Gives, Recorded, Fault, Note}
use Rattle.wh_html.specs.declared.page.Task.{Task}
use Rattle.wh_html.specs.Html.{Html, nothing, markup, plain, hole, ◌⊕◌, number, stamp, each}
use Rattle.wh_html.specs.Words.{side_word}

-- the event of a line, if it has one
abbrev pub number_html : Option ℕ → Html
number_html None = nothing
number_html (Some event) = markup (codes "event ") ⊕ number event

-- the id by which a link leads to the line of an event, if it has one
abbrev pub anchor_html : Option ℕ → Html
anchor_html None = nothing
anchor_html (Some event) = markup (codes " id=\"event-") ⊕ number event ⊕ markup (codes "\"")

-- a line of a stack trace
abbrev pub trace_line_html : List ℕ → Html
trace_line_html line = hole 300 line ⊕ markup (codes "\n")

-- how many lines of stack traces are left out, if some are
abbrev pub more_html : ℕ → Html
more_html left =
    if left == 0 then nothing
    else (markup (codes "<p class=\"soft\">") ⊕ number left ⊕ markup (codes " more lines.</p>\n"))

-- stack traces, folded, with 100 of their lines
abbrev pub folded_html : List (List ℕ) → Html
folded_html lines =
    markup (codes "<details class=\"trace\"><summary>Stack trace</summary>\n<pre>")
    ⊕ each trace_line_html (take 100 lines)
    ⊕ markup (codes "</pre>\n")
    ⊕ more_html (length lines - 100)
    ⊕ markup (codes "</details>")

-- the same, if there are some
abbrev pub trace_html : List (List ℕ) → Html
trace_html lines = if length lines == 0 then nothing else folded_html lines

-- a line of a task without the stack traces
unfoldable pub line_head_html : TaskLine → Html
line_head_html line =
    markup (codes "<li class=\"")
    ⊕ plain (side_word line.side)
    ⊕ markup (codes "\"")
    ⊕ anchor_html line.event
    ⊕ markup (codes "><span class=\"side-word\">")
    ⊕ plain (side_word line.side)
    ⊕ markup (codes "</span> <span class=\"event\">")
    ⊕ number_html line.event
    ⊕ markup (codes "</span> <code>")
    ⊕ hole 600 line.text
    ⊕ markup (codes "</code>")

-- a line of a task
unfoldable pub line_html : TaskLine → Html
line_html line = line_head_html line ⊕ trace_html line.trace ⊕ markup (codes "</li>\n")

-- how many lines of a task are left out before or after those that are shown, if some are
abbrev pub left_html : (words : List ℕ) → ℕ → Html
left_html words left =
    if left == 0 then nothing
    else (markup (codes "<li class=\"note\"><span class=\"side-word\">")
    ⊕ number left ⊕ plain words ⊕ markup (codes "</span></li>\n"))

-- the line has the fault
abbrev pub is_fault : Side → Bool
is_fault Told = false
is_fault Gives = false
is_fault Recorded = false
is_fault Fault = true
is_fault Note = false

-- how many lines are left out before the 40 that are shown: 20 of these precede the first that has the fault, if there
-- are as many; if no line has it, the first 40 are shown
abbrev pub left_before : List TaskLine → ℕ
left_before lines = min (unwrap_or (position (λ line. is_fault line.side) lines) 0 - 20) (length lines - 40)

-- the lines that are shown
abbrev pub shown_lines : List TaskLine → List TaskLine
shown_lines lines = take 40 (drop (left_before lines) lines)

-- how many lines are left out after those that are shown
abbrev pub left_after : List TaskLine → ℕ
left_after lines = length lines - 40 - left_before lines

-- the lines that are shown, and how many are left out before and after them
unfoldable pub lines_html : List TaskLine → Html
lines_html lines =
    left_html (codes " before") (left_before lines)
    ⊕ each line_html (shown_lines lines)
    ⊕ left_html (codes " more") (left_after lines)

-- the attributes that open a task with the fault, and mark it
abbrev pub open_words : Bool → List ℕ
open_words faulty = if faulty then codes " class=\"hit\" open" else []

-- a task, with 40 of its lines
unfoldable pub task_html : Task → Html
task_html task =
    markup (codes "<details")
    ⊕ plain (open_words task.faulty)
    ⊕ markup (codes "><summary>")
    ⊕ hole 300 task.heading
    ⊕ markup (codes " <span class=\"time\">event ")
    ⊕ number task.started.event
    ⊕ markup (codes ", ")
    ⊕ stamp task.started.millis
    ⊕ markup (codes "</span></summary>\n<ol>\n")
    ⊕ lines_html task.lines
    ⊕ markup (codes "</ol>\n</details>\n")

-- how many of all tasks are shown, and how many are left out before and after them
abbrev pub task_count_html : (shown before total : ℕ) → Html
task_count_html shown before total =
    if shown == total
    then (markup (codes "<p class=\"soft\">") ⊕ number total ⊕ markup (codes " in all.</p>\n"))
    else (markup (codes "<p class=\"soft\">") ⊕ number shown ⊕ markup (codes " of ") ⊕ number total
    ⊕ markup (codes " are shown; ") ⊕ number before ⊕ markup (codes " before them and ")
    ⊕ number (total - shown - before) ⊕ markup (codes " after them are left out.</p>\n"))

-- the tasks that are shown, with so many left out before them, out of so many in all
unfoldable pub tasks_html : List Task → (before total : ℕ) → Html
tasks_html tasks before total =
    markup (codes "<section>\n<h2>Tasks</h2>\n")
    ⊕ task_count_html (length tasks) before total
    ⊕ each task_html tasks
    ⊕ markup (codes "</section>\n")

-- a note
abbrev pub note_html : List ℕ → Html
note_html note = markup (codes "<li>") ⊕ hole 300 note ⊕ markup (codes "</li>\n")

-- what an open run waits for, if it is one
abbrev pub waits_html : List (List ℕ) → Html
waits_html [] = nothing
waits_html (wait ∷ waits) =
    markup (codes "<section class=\"waits\">\n<h2>What the run waits for</h2>\n<ul>\n")
    ⊕ each note_html (wait ∷ waits)
    ⊕ markup (codes "</ul>\n</section>\n")

-- notes, if there are some
abbrev pub notes_html : List (List ℕ) → Html
notes_html [] = nothing
notes_html (note ∷ notes) =
    markup (codes "<section>\n<h2>Notes</h2>\n<ul>\n")
    ⊕ each note_html (note ∷ notes)
    ⊕ markup (codes "</ul>\n</section>\n")
