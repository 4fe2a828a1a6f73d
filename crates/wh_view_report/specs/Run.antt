-- The lines of a run: its names, and whether it is open.
use Rattle.std.specs.Prelude.{ℕ, List, [], ◌∷◌, ◌++◌, codes, Bool, true, false, if◌then◌else◌, Option, Some, None, option_and_then}
use Rattle.wh_events.specs.declared.kind.EventKind.{EventKind}
use Rattle.wh_events.specs.declared.kind.EventKind.TheVariants.{WorkflowExecutionStarted}
use Rattle.wh_view.specs.Lookups.{index_of}
use Rattle.wh_view.specs.Runs.{closing_in, status_of}
use Rattle.wh_view.specs.Times.{span_between}
use Rattle.wh_view.specs.declared.view.RunNames.{RunNames}
use Rattle.wh_view.specs.declared.view.RunStatus.{RunStatus}
use Rattle.wh_view.specs.declared.view.RunStatus.TheVariants as statuses
use Rattle.wh_view.specs.declared.view.View.{View}
use Rattle.wh_view.specs.declared.view.ViewedEvent.{ViewedEvent}
use Rattle.wh_view_report.specs.Cut.{cut, label_text}
use Rattle.wh_view_report.specs.Spans.{label_span}
use Rattle.wh_view_report.specs.Words.{number_text}

-- a name, or that it is not recorded
abbrev pub recorded_text : List ℕ → List ℕ
recorded_text [] = codes "not recorded"
recorded_text (c ∷ cs) = cut (c ∷ cs)

-- the parent of a run, by its workflow id, or that it has none
abbrev pub parent_text : List ℕ → List ℕ
parent_text [] = codes "no parent"
parent_text (c ∷ cs) = codes "parent " ++ cut (c ∷ cs)

-- the ids of a run
abbrev pub ids_text : RunNames → List ℕ
ids_text names =
    codes "workflow id " ++ (recorded_text names.workflow_id ++ (codes ", run id " ++ recorded_text names.run_id))

-- the Task Queue of a run, its parent, and the run before it
abbrev pub origin_text : RunNames → List ℕ
origin_text names =
    codes ", Task Queue " ++ (recorded_text names.task_queue
    ++ (codes ", " ++ (parent_text names.parent_workflow_id
    ++ label_text (codes ", goes on from run ") names.previous_run_id)))

-- the line with the names of a run
abbrev pub names_line : RunNames → List ℕ
names_line names = ids_text names ++ (origin_text names ++ 10 ∷ [])

-- whether a run is open, or how it was closed
abbrev pub status_word : RunStatus → List ℕ
status_word statuses.Running = codes "Running"
status_word statuses.Completed = codes "Completed"
status_word statuses.Failed = codes "Failed"
status_word statuses.Canceled = codes "Canceled"
status_word statuses.Terminated = codes "Terminated"
status_word statuses.TimedOut = codes "TimedOut"
status_word statuses.ContinuedAsNew = codes "ContinuedAsNew"

-- the kind is that of the event that starts a run
abbrev pub is_start : Option EventKind → Bool
is_start (Some (WorkflowExecutionStarted _ _)) = true
is_start _ = false

-- a list of events begins with the one that starts the run
abbrev pub has_start : List ViewedEvent → Bool
has_start [] = false
has_start (event ∷ events) = is_start event.read.kind

-- how long a run took, from the event that starts it, the first one, to the one that closes it
abbrev pub run_span : View → Option ℕ
run_span view =
    if has_start view.events
    then option_and_then (λ event. span_between view (Some 0) (Some (index_of event))) (closing_in view.events)
    else None

-- what follows the status of a run that an event closes
abbrev pub closing_text : View → Option ViewedEvent → List ℕ
closing_text view None = []
closing_text view (Some event) =
    codes " " ++ (number_text event ++ (label_text (codes " ") event.moment
    ++ (label_span (codes ", after ") (run_span view)
    ++ label_text (codes ", goes on in run ") event.details.ending.next_run_id)))

-- the line that says whether a run is open, or how it was closed
abbrev pub status_line : View → List ℕ
status_line view =
    status_word (status_of view.events) ++ (closing_text view (closing_in view.events) ++ 10 ∷ [])

-- the lines of a run
unfoldable pub run_lines : View → List ℕ
run_lines view = names_line view.run ++ status_line view
