-- How an event changes the things of its history, and how it concerns its workflow tasks.
use Rattle.std.specs.Prelude.{ℕ, ◌==◌, ◌||◌, Bool, true, false, not, Option, Some, None, if◌then◌else◌}
use Rattle.wh_events.specs.declared.place.Thing.{Thing}
use Rattle.wh_events.specs.declared.place.Thing.TheVariants as things
use Rattle.wh_events.specs.declared.kind.EventKind.{EventKind}
use Rattle.wh_events.specs.declared.kind.EventKind.TheVariants.{WorkflowTaskCompleted, ActivityTaskStarted, WorkflowExecutionSignaled, MarkerRecorded}
use Rattle.wh_events.specs.declared.kind.Class.{Class}
use Rattle.wh_events.specs.declared.kind.Class.TheVariants.{Start, Task, Commanded, Outside, Inert, Close}
use Rattle.wh_events.specs.Kinds.{Role, class_of, role_of}
use Rattle.wh_events.specs.Kinds.Role.{Opens, Refers, CancelsChild, Plain}
use Rattle.wh_events.specs.Cuts.{is_task_completed_kind}
use Rattle.wh_view.specs.declared.view.ThingKind.{ThingKind}
use Rattle.wh_view.specs.declared.view.ThingKind.TheVariants as kinds
use Rattle.wh_view.specs.declared.view.ViewedEvent.{ViewedEvent}
use Rattle.wh_view.specs.declared.view.UpdateStep.{UpdateStep}
use Rattle.wh_view.specs.declared.view.UpdateStep.TheVariants.{Admitted, Accepted, Rejected, Completed}
use Rattle.wh_view.specs.Updates.{step_named}
use Rattle.wh_view.specs.declared.parts.Part.{Part}
use Rattle.wh_view.specs.declared.parts.Part.TheVariants as parts
use Rattle.wh_view.specs.declared.parts.EventUse.{EventUse}
use Rattle.wh_view.specs.declared.parts.EventUse.TheVariants as words

-- the kind of thing that is opened under an id
abbrev pub kind_of_thing : Thing → ThingKind
kind_of_thing things.Activity = kinds.Activity
kind_of_thing things.Timer = kinds.Timer
kind_of_thing things.Child = kinds.Child
kind_of_thing things.CancelRequest = kinds.CancelRequest
kind_of_thing things.SignalRequest = kinds.SignalRequest

-- the part of an event that opens nothing and refers to nothing: a signal and a marker are things of their own
abbrev pub plain_part : EventKind → Part
plain_part (WorkflowExecutionSignaled _ _) = parts.Happens kinds.Signal
plain_part (MarkerRecorded _ _) = parts.Happens kinds.Marker
plain_part _ = parts.Other

-- the part of an event, by its role
abbrev pub part_by : Role → EventKind → Part
part_by (Opens thing id) kind = parts.Opens (kind_of_thing thing)
part_by (Refers thing number effect) kind = parts.Refers (kind_of_thing thing) number effect
part_by (CancelsChild workflow_id) kind = parts.Opens kinds.CancelRequest
part_by Plain kind = plain_part kind

-- the part of an event, if its type is supported
abbrev pub part_of : Option EventKind → Part
part_of None = parts.Other
part_of (Some kind) = part_by (role_of kind) kind

-- the step of an update that an event tells of, by the name of its type
abbrev pub step_of : ViewedEvent → Option UpdateStep
step_of event = step_named event.read.name

-- a worker takes the step
abbrev pub is_answer : Option UpdateStep → Bool
is_answer None = false
is_answer (Some Admitted) = false
is_answer (Some Accepted) = true
is_answer (Some Rejected) = true
is_answer (Some Completed) = true

-- an event says itself that the workflow gave it: it names the task in which it did, or is a step of an update that a
-- worker takes
unfoldable pub is_given : ViewedEvent → Bool
is_given event = not (event.details.task_event == 0) || is_answer (step_of event)

-- an event of the class records what the workflow did in a task; one that replay skips does if it says so itself
abbrev pub commanded_class : Class → (given : Bool) → Bool
commanded_class Start given = false
commanded_class Task given = false
commanded_class Commanded given = true
commanded_class Outside given = false
commanded_class Inert given = given
commanded_class Close given = false

-- the same of an event of the kind, or of a type that the reader does not read
abbrev pub commanded_kind : Option EventKind → (given : Bool) → Bool
commanded_kind None given = given
commanded_kind (Some kind) given = commanded_class (class_of kind) given

-- an event of a view records what the workflow did in a task
unfoldable pub is_commanded : ViewedEvent → Bool
is_commanded event = commanded_kind event.read.kind (is_given event)

-- the event completes a workflow task
abbrev pub completing_kind : Option EventKind → Bool
completing_kind None = false
completing_kind (Some kind) = is_task_completed_kind kind

-- an event of a view completes a workflow task
unfoldable pub completes_task : ViewedEvent → Bool
completes_task event = completing_kind event.read.kind

-- how an event concerns the workflow if only its attributes and its name tell that
abbrev pub word_by_step : Option UpdateStep → EventUse
word_by_step (Some Admitted) = words.Told
word_by_step _ = words.Other

abbrev pub word_if : (given : Bool) → Option UpdateStep → EventUse
word_if given step = if given then words.Gives else word_by_step step

-- how an event of the class concerns the workflow, the completion of a task aside; `rest` if its class does not say
abbrev pub class_word : Class → (rest : EventUse) → EventUse
class_word Start rest = words.Told
class_word Outside rest = words.Told
class_word Commanded rest = words.Gives
class_word Task rest = words.Other
class_word Inert rest = rest
class_word Close rest = words.Other

-- how an event of the kind concerns the workflow: the start of an activity by a worker is no activation job
abbrev pub word_of_kind : EventKind → (rest : EventUse) → EventUse
word_of_kind WorkflowTaskCompleted rest = words.Completes
word_of_kind (ActivityTaskStarted _) rest = words.Other
word_of_kind kind rest = class_word (class_of kind) rest

-- how an event concerns its workflow, by its kind if the reader reads its type
abbrev pub word_by : Option EventKind → (rest : EventUse) → EventUse
word_by None rest = rest
word_by (Some kind) rest = word_of_kind kind rest

-- how an event of a view concerns its workflow
unfoldable pub word_of : ViewedEvent → EventUse
word_of event = word_by event.read.kind (word_if (is_given event) (step_of event))

-- the kinds of things, each by a number of its own
abbrev pub rank : ThingKind → ℕ
rank kinds.Activity = 0
rank kinds.Timer = 1
rank kinds.Child = 2
rank kinds.CancelRequest = 3
rank kinds.SignalRequest = 4
rank kinds.Signal = 5
rank kinds.Marker = 6

-- the kinds are the same
abbrev pub same_kind : ThingKind → ThingKind → Bool
same_kind one other = rank one == rank other
