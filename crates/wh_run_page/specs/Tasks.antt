-- The workflow tasks of a run, as those of its page.
use Rattle.std.specs.Prelude.{ℕ, ◌+◌, ◌==◌, ◌&&◌, Bool, true, false, not, if◌then◌else◌, Option, Some, None, List, [], ◌∷◌, ◌++◌, map, take, drop, slice_get}
use Rattle.std.specs.List.{flat_map, list_any}
use Rattle.wh_html.specs.Views.{first_shown, shown}
use Rattle.wh_html.specs.declared.page.Moment.{Moment}
use Rattle.wh_html.specs.declared.page.TaskLine.{TaskLine}
use Rattle.wh_html.specs.declared.page.Task.{Task}
use Rattle.wh_html.specs.declared.page.Side.{Side}
use Rattle.wh_html.specs.declared.page.Side.TheVariants as sides
use Rattle.wh_view.specs.declared.parts.EventUse.{EventUse}
use Rattle.wh_view.specs.declared.parts.EventUse.TheVariants as words
use Rattle.wh_view.specs.declared.view.RunStatus.{RunStatus}
use Rattle.wh_view.specs.declared.view.RunStatus.TheVariants.{Running}
use Rattle.wh_view.specs.declared.view.View.{View}
use Rattle.wh_view.specs.declared.view.ViewedEvent.{ViewedEvent}
use Rattle.wh_view.specs.Parts.{word_of}
use Rattle.wh_view.specs.Runs.{status_of}
use Rattle.wh_view_report.specs.Texts.{is_quiet}
use Rattle.wh_run_page.specs.declared.headings.Sought.TheVariants.{Start}
use Rattle.wh_run_page.specs.Headings.{first_like, heading}
use Rattle.wh_run_page.specs.Moments.{number_of, moment_or}
use Rattle.wh_run_page.specs.EventWords.{event_words}
use Rattle.wh_run_page.specs.Causes.{trace_of}
use Rattle.wh_run_page.specs.declared.tasks.Group.{Group}

-- there is a place, and it is this one
abbrev pub is_at : Option ℕ → ℕ → Bool
is_at None place = false
is_at (Some other) place = other == place

-- the side of the line of an event
abbrev pub side_of : EventUse → Side
side_of words.Told = sides.Told
side_of words.Gives = sides.Gives
side_of words.Completes = sides.Recorded
side_of words.Other = sides.Recorded

-- the side of the line of an event: `Fault` for the event of the fault
abbrev pub side_at : Option ℕ → ViewedEvent → Side
side_at fault event = if is_at fault event.place then sides.Fault else side_of (word_of event)

-- the line of an event
abbrev pub line_of : View → Option ℕ → ViewedEvent → TaskLine
line_of view fault event =
    record {
      side = side_at fault event;
      event = Some (number_of event);
      text = event_words view event;
      trace = flat_map trace_of event.details.failures;
    }

-- an event has a line, except for a workflow task that is scheduled or started; the event of the fault always has one
abbrev pub has_line : Option ℕ → ViewedEvent → Bool
has_line fault event = if is_at fault event.place then true else not (is_quiet event)

-- the line of an event, if it has one
abbrev pub line_if : View → Option ℕ → ViewedEvent → List TaskLine
line_if view fault event = if has_line fault event then line_of view fault event ∷ [] else []

-- the lines of events
abbrev pub lines_of : View → Option ℕ → List ViewedEvent → List TaskLine
lines_of view fault events = flat_map (line_if view fault) events

-- the event, or else the first event of the list
abbrev pub or_first : Option ViewedEvent → List ViewedEvent → Option ViewedEvent
or_first (Some event) events = Some event
or_first None events = slice_get events 0

-- the first event with which a workflow task starts, or else the first event
abbrev pub start_of : List ViewedEvent → Option ViewedEvent
start_of events = or_first (first_like Start events) events

-- a task of these events
unfoldable pub task_of : View → List ℕ → Option ℕ → (number : ℕ) → List ViewedEvent → Task
task_of view times fault number events =
    record {
      heading = heading view number events;
      started = moment_or times (start_of events);
      lines = lines_of view fault events;
      faulty = list_any (λ event. is_at fault event.place) events;
    }

-- the current group after the next event, of the task of this number: the same with one more, or a new one after it
unfoldable pub next_group : Group → ℕ → Group
next_group group number =
    if number == group.number then record group { count = group.count + 1 }
    else record { number = number; first = group.first + group.count; count = 1 }

-- the group, if the next event, of the task of this number, does not continue it
unfoldable pub closed_by : Group → ℕ → List Group
closed_by group number = if number == group.number then [] else group ∷ []

-- the groups of events by the numbers of their tasks, with adjacent equal numbers together; `group` is the current one
unfoldable pub groups_from : Group → List ℕ → List Group
groups_from group [] = group ∷ []
groups_from group (number ∷ numbers) = closed_by group number ++ groups_from (next_group group number) numbers

-- the numbers of the tasks to which events belong, with adjacent equal ones in one group
unfoldable pub groups_of : List ℕ → List Group
groups_of [] = []
groups_of (number ∷ numbers) = groups_from (record { number = number; first = 0; count = 1 }) numbers

-- the events of a group
abbrev pub events_of : List ViewedEvent → Group → List ViewedEvent
events_of events group = take group.count (drop group.first events)

-- the task of a group
abbrev pub task_at : View → List ℕ → Option ℕ → Group → Task
task_at view times fault group = task_of view times fault group.number (events_of view.events group)

-- the tasks of a run: adjacent events that belong to one task are together
abbrev pub tasks_of : View → List ℕ → Option ℕ → List Task
tasks_of view times fault = map (task_at view times fault) (groups_of view.tasks)

-- the run is open
abbrev pub is_running : RunStatus → Bool
is_running Running = true
is_running _ = false

-- the moment at which the task of a group starts
abbrev pub start_at : View → List ℕ → Group → Moment
start_at view times group = moment_or times (start_of (events_of view.events group))

-- how many tasks are left out before those that the page shows, by the moment of the fault
abbrev pub earlier_of : View → List ℕ → Option Moment → ℕ
earlier_of view times fault =
    first_shown (map (start_at view times) (groups_of view.tasks)) fault (is_running (status_of view.events))

-- the tasks that the page shows, by the place and the moment of the fault
abbrev pub shown_tasks : View → List ℕ → (place : Option ℕ) → Option Moment → List Task
shown_tasks view times place fault = shown (earlier_of view times fault) (tasks_of view times place)
