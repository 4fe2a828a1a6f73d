-- The text of a view, one line for each event.
use Rattle.std.specs.Prelude.{ℕ, ◌+◌, ◌-◌, ◌==◌, ◌&&◌, decimal, length, slice_get, List, [], ◌∷◌, ◌++◌, codes, Bool, true, false, not, nat_le, is_some, Option, Some, None, count_by, if◌then◌else◌}
use Rattle.std.specs.List.{flat_map}
use Rattle.wh_events.specs.declared.kind.EventKind.{EventKind}
use Rattle.wh_events.specs.declared.kind.EventKind.TheVariants.{WorkflowTaskScheduled, WorkflowTaskStarted}
use Rattle.wh_view_report.specs.declared.text.TaskRange.{TaskRange}
use Rattle.wh_console.specs.declared.selection.Selection.{Selection}
use Rattle.wh_console.specs.declared.selection.Selection.TheVariants.{All, Last, Around}
use Rattle.wh_view.specs.declared.view.View.{View}
use Rattle.wh_view.specs.declared.view.ViewedEvent.{ViewedEvent}
use Rattle.wh_view.specs.declared.view.UnsupportedKind.{UnsupportedKind}
use Rattle.wh_view_report.specs.Cut.{cut, label_text}
use Rattle.wh_view.specs.Parts.{completes_task}
use Rattle.wh_view.specs.Things.{is_number}
use Rattle.wh_view.specs.Lookups.{event_name, event_type, task_of}
use Rattle.wh_view_report.specs.Causes.{because_text, ending_text}
use Rattle.wh_view_report.specs.Run.{run_lines}
use Rattle.wh_view_report.specs.Spans.{duration_text, step_span}
use Rattle.wh_view_report.specs.Subjects.{notes_text, subject_text}
use Rattle.wh_view_report.specs.Sums.{sum_text}
use Rattle.wh_view_report.specs.Waits.{waits_line}
use Rattle.wh_view_report.specs.Words.{start_text, number_text, link_text, marker_name, told_mark}

-- how many tasks are completed
abbrev pub completed_count : List ViewedEvent → ℕ
completed_count events = count_by completes_task events

-- the event has the number
abbrev pub has_number : ℕ → ViewedEvent → Bool
has_number number event = is_number number event.read.number

-- the first event that has the number
unfoldable pub numbered_in : ℕ → List ViewedEvent → Option ViewedEvent
numbered_in number [] = None
numbered_in number (event ∷ events) = if has_number number event then Some event else numbered_in number events

-- the view has what is selected
abbrev pub has_selected : View → Selection → Bool
has_selected view All = true
has_selected view (Last tasks) = true
has_selected view (Around number) = is_some (numbered_in number view.events)

-- a task with the two before and the two after it
abbrev pub span_around : ℕ → TaskRange
span_around task = record { first = task - 2; more = task - (task - 2) + 2 }

-- the tasks around that of an event
abbrev pub span_at : View → Option ViewedEvent → TaskRange
span_at view (Some event) = span_around (task_of view event)
span_at view None = record { first = 0; more = 0 }

-- the tasks that are selected
abbrev pub span_of : View → Selection → TaskRange
span_of view All = record { first = 0; more = length view.events }
span_of view (Last tasks) = record { first = completed_count view.events + 1 - tasks; more = length view.events }
span_of view (Around number) = span_at view (numbered_in number view.events)

-- the event belongs to one of the tasks
abbrev pub is_within : View → TaskRange → ViewedEvent → Bool
is_within view span event =
    nat_le span.first (task_of view event) && nat_le (task_of view event - span.first) span.more

-- how many events belong to other tasks
abbrev pub left_out : View → TaskRange → ℕ
left_out view span = count_by (λ event. not (is_within view span event)) view.events

-- the line of a value
abbrev pub value_line : List ℕ → List ℕ
value_line value = codes "      " ++ (cut value ++ 10 ∷ [])

-- what is told of an event behind its time and its thing
unfoldable pub tail_text : View → ViewedEvent → List ℕ
tail_text view event =
    step_span view event ++ (notes_text event ++ (duration_text event.duration
    ++ (because_text event ++ (ending_text event ++ label_text (codes ", ") (told_mark view event)))))

-- the line of an event
unfoldable pub event_line : View → ViewedEvent → List ℕ
event_line view event =
    start_text view event ++ (cut (event_name event)
    ++ (subject_text view event
    ++ (codes " " ++ (number_text event
    ++ (label_text (codes " ") event.moment
    ++ (link_text view event ++ (tail_text view event ++ 10 ∷ [])))))))

-- the lines of an event
abbrev pub event_text : View → ViewedEvent → List ℕ
event_text view event = event_line view event ++ flat_map value_line event.payloads

-- the event is a workflow task that is scheduled or started, which has no line
abbrev pub quiet_kind : Option EventKind → Bool
quiet_kind (Some WorkflowTaskScheduled) = true
quiet_kind (Some WorkflowTaskStarted) = true
quiet_kind _ = false

-- the event has no line
abbrev pub is_quiet : ViewedEvent → Bool
is_quiet event = quiet_kind event.read.kind

-- the event belongs to one of the tasks, and has a line
abbrev pub is_shown : View → TaskRange → ViewedEvent → Bool
is_shown view span event = is_within view span event && not (is_quiet event)

-- the lines of an event, if it is shown
abbrev pub shown_text : View → TaskRange → ViewedEvent → List ℕ
shown_text view span event = if is_shown view span event then event_text view event else []

-- the workflow type that the first event names
abbrev pub workflow_type : Option ViewedEvent → List ℕ
workflow_type None = []
workflow_type (Some event) = event_type event

-- the line with a workflow type and the counts
abbrev pub counts_line : List ℕ → (events tasks things : ℕ) → List ℕ
counts_line kind events tasks things =
    cut kind ++ (codes ": " ++ (decimal events ++ (codes " events, " ++ (decimal tasks ++ (codes " tasks completed, "
    ++ (decimal things ++ codes " things\n"))))))

-- the first line
abbrev pub head_line : View → List ℕ
head_line view =
    counts_line (workflow_type (slice_get view.events 0)) (length view.events) (completed_count view.events)
    (length view.things)

-- the type of an event, followed by the name of a marker
abbrev pub kind_name : ViewedEvent → List ℕ
kind_name event = cut (event_name event) ++ label_text (codes " ") (marker_name event)

-- the line of a kind that is not supported, from its first event
unfoldable pub kind_line : (count : ℕ) → ViewedEvent → List ℕ
kind_line count event =
    codes "can't be replayed here: " ++ (kind_name event ++ (codes ", " ++ (decimal count
    ++ (codes " events, first " ++ (number_text event ++ 10 ∷ [])))))

-- that line, if there is a first event
abbrev pub kind_line_at : (count : ℕ) → Option ViewedEvent → List ℕ
kind_line_at count None = []
kind_line_at count (Some event) = kind_line count event

-- the line of a kind that is not supported
abbrev pub unsupported_line : View → UnsupportedKind → List ℕ
unsupported_line view kind = kind_line_at kind.count (slice_get view.events kind.first)

-- the first lines: the counts, the names of the run, and whether it is open
abbrev pub top_text : View → List ℕ
top_text view = head_line view ++ run_lines view

-- the last event, by its number or its place, if there is one
abbrev pub last_at : Option ViewedEvent → List ℕ
last_at None = []
last_at (Some event) = codes ", the last is " ++ number_text event

abbrev pub last_text : List ViewedEvent → List ℕ
last_text events = last_at (slice_get events (length events - 1))

-- that no event has the number
abbrev pub none_numbered : ℕ → List ViewedEvent → List ℕ
none_numbered number events =
    if is_some (numbered_in number events) then []
    else codes "no event " ++ (decimal number ++ (last_text events ++ 10 ∷ []))

-- that the event around which tasks are selected is none of the view, if it is none
abbrev pub missing_line : View → Selection → List ℕ
missing_line view All = []
missing_line view (Last tasks) = []
missing_line view (Around number) = none_numbered number view.events

-- the line on what is left out, if something is
abbrev pub left_line : ℕ → List ℕ
left_line left = if left == 0 then [] else decimal left ++ codes " events of other tasks are left out\n"

-- the lines of the events of some tasks, and how many events are left out
abbrev pub tasks_text : View → TaskRange → List ℕ
tasks_text view span = flat_map (shown_text view span) view.events ++ left_line (left_out view span)

-- what an open run waits for, and a line for each type of its things
abbrev pub state_text : View → List ℕ
state_text view = waits_line view ++ flat_map (sum_text view) view.sums

-- the last lines: a line for each kind that is not supported, and how the run and its things stand
abbrev pub bottom_text : View → List ℕ
bottom_text view = flat_map (unsupported_line view) view.unsupported ++ state_text view

-- the text above and below the tasks, and that of some tasks
abbrev pub front_text : View → Selection → List ℕ
front_text view selection = top_text view ++ missing_line view selection

abbrev pub rest_text : View → TaskRange → List ℕ
rest_text view span = tasks_text view span ++ bottom_text view

-- the text with some tasks
unfoldable pub span_text : View → Selection → TaskRange → List ℕ
span_text view selection span = front_text view selection ++ rest_text view span

-- the whole text
abbrev pub view_text : View → Selection → List ℕ
view_text view selection = span_text view selection (span_of view selection)
