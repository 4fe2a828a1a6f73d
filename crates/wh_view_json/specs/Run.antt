-- A run as JSON: its names, whether it is open, and what it waits for.
use Rattle.std.specs.Prelude.{ℕ, List, [], ◌++◌, codes, decimal, is_some, Option, Some, None, slice_get, if◌then◌else◌}
use Rattle.std.specs.List.{flat_map}
use Rattle.wh_view.specs.Lookups.{event_id, event_type}
use Rattle.wh_view.specs.Runs.{closing_in, status_of}
use Rattle.wh_view.specs.Times.{due_time}
use Rattle.wh_view.specs.Waiting.{open_task}
use Rattle.wh_view.specs.declared.view.OpenTask.{OpenTask}
use Rattle.wh_view.specs.declared.view.RunNames.{RunNames}
use Rattle.wh_view.specs.declared.view.RunStatus.{RunStatus}
use Rattle.wh_view.specs.declared.view.RunStatus.TheVariants.{Running}
use Rattle.wh_view.specs.declared.view.View.{View}
use Rattle.wh_view.specs.declared.view.ViewedEvent.{ViewedEvent}
use Rattle.wh_view.specs.declared.view.ViewedThing.{ViewedThing}
use Rattle.wh_view_json.specs.Parts.{kind_word, place_at, place_member}
use Rattle.wh_view_json.specs.Texts.{text_member, seconds_member, until_member}
use Rattle.wh_view_report.specs.Run.{run_span, status_word}

-- the names of a run, as further members of an object
abbrev pub name_members : RunNames → List ℕ
name_members names =
    text_member (codes "workflowId") names.workflow_id
    ++ (text_member (codes "runId") names.run_id
    ++ (text_member (codes "taskQueue") names.task_queue
    ++ (text_member (codes "parentWorkflowId") names.parent_workflow_id
    ++ (text_member (codes "parentRunId") names.parent_run_id
    ++ text_member (codes "previousRunId") names.previous_run_id))))

-- the end of a run, as further members of an object
abbrev pub closed_members : View → Option ViewedEvent → List ℕ
closed_members view None = []
closed_members view (Some event) =
    codes ",\"closed\":" ++ (decimal event.place ++ (seconds_member (codes "seconds") (run_span view)
    ++ text_member (codes "nextRunId") event.details.ending.next_run_id))

abbrev pub closing_members : View → List ℕ
closing_members view = closed_members view (closing_in view.events)

-- a run, as a further member of an object
unfoldable pub run_member : View → List ℕ
run_member view =
    codes ",\"run\":{\"status\":\"" ++ (status_word (status_of view.events) ++ (codes "\""
    ++ (name_members view.run ++ (closing_members view ++ codes "}"))))

-- the object of a thing for which a run waits, and which the event opened
unfoldable pub open_object : View → ViewedThing → ViewedEvent → List ℕ
open_object view thing event =
    codes "{\"waits\":\"" ++ (kind_word thing.kind ++ (codes "\""
    ++ (text_member (codes "id") (event_id event) ++ (text_member (codes "type") (event_type event)
    ++ (codes ",\"opened\":" ++ (decimal event.place
    ++ (place_member (codes "started") (place_at view thing.started)
    ++ (text_member (codes "since") event.moment ++ (until_member (due_time view thing) ++ codes "}\n")))))))))

-- the same, if there is such an event
abbrev pub open_at : View → ViewedThing → Option ViewedEvent → List ℕ
open_at view thing None = []
open_at view thing (Some event) = open_object view thing event

-- the object of a thing, if a run waits for it
abbrev pub thing_object : View → ViewedThing → List ℕ
thing_object view thing = if is_some thing.ended then [] else open_at view thing (slice_get view.events thing.opened)

-- of the last attempt of a workflow task, that a worker has started it, or that it failed or timed out
abbrev pub attempt_members : View → OpenTask → List ℕ
attempt_members view task =
    place_member (codes "started") (place_at view task.started)
    ++ place_member (codes "failed") (place_at view task.failed)

-- the object of a workflow task for which a run waits, and which the event scheduled
abbrev pub task_at : View → OpenTask → Option ViewedEvent → List ℕ
task_at view task None = []
task_at view task (Some event) =
    codes "{\"waits\":\"workflowTask\",\"opened\":" ++ (decimal event.place
    ++ (attempt_members view task
    ++ (text_member (codes "since") event.moment ++ codes "}\n")))

abbrev pub task_object : View → OpenTask → List ℕ
task_object view task = task_at view task (slice_get view.events task.scheduled)

-- the object of the workflow task for which a run waits, if there is one
abbrev pub task_objects_of : View → Option OpenTask → List ℕ
task_objects_of view None = []
task_objects_of view (Some task) = task_object view task

abbrev pub task_objects : View → List ℕ
task_objects view = task_objects_of view (open_task view.events)

-- the objects of an open run
abbrev pub open_objects : View → List ℕ
open_objects view = flat_map (thing_object view) view.things ++ task_objects view

-- an object for each thing and for the workflow task for which a run of the status waits
abbrev pub waits_by : RunStatus → View → List ℕ
waits_by Running view = open_objects view
waits_by _ view = []

unfoldable pub wait_objects : View → List ℕ
wait_objects view = waits_by (status_of view.events) view
