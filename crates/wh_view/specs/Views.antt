-- The view of the bytes of a history.
use Rattle.std.specs.Prelude.{◌≡◌, ℕ, ◌+◌, List, [], ◌∷◌, codes, map, Option, Some, None, Result, Ok, if◌then◌else◌}
use Rattle.serde_json.specs.Data.{Data}
use Rattle.wh_json.specs.declared.fault.ReadFault.{ReadFault}
use Rattle.wh_json.specs.declared.fault.ReadFault.TheVariants.{NoEvents}
use Rattle.wh_json.specs.declared.partial.PartialEvent.{PartialEvent}
use Rattle.wh_json.specs.Events.{document_within, event_number, events_in}
use Rattle.wh_json.specs.Fields.{field, text_of}
use Rattle.wh_json.specs.Outcome.{◌>>=◌, or_fault}
use Rattle.wh_json.specs.Partial.{partial_event}
use Rattle.wh_view.specs.declared.view.View.{View}
use Rattle.wh_view.specs.declared.view.ViewedEvent.{ViewedEvent}
use Rattle.wh_view.specs.Attributes.{attributes_of}
use Rattle.wh_view.specs.EventDetails.{details_of}
use Rattle.wh_view.specs.Runs.{run_of}
use Rattle.wh_view.specs.Details.{attempt_of, failure_of, duration_of, AreValuesOf, IsJsonOf}
use Rattle.wh_view.specs.Values.{values_of}
use Rattle.wh_view.specs.Each.{Each}
use Rattle.wh_view.specs.Parts.{completes_task, is_commanded}
use Rattle.wh_times.specs.Sums.{AreSums}
use Rattle.wh_view.specs.Sums.{typed_things}
use Rattle.wh_view.specs.Things.{gathered}
use Rattle.wh_view.specs.Unsupported.{unsupported_kinds}

-- how the members from a place on are read, each after the number of the member before
unfoldable pub reads_from : ℕ → Option ℕ → List Data → List PartialEvent
reads_from at before [] = []
reads_from at before (d ∷ ds) = partial_event at before d ∷ reads_from (at + 1) (event_number d) ds

-- how each event is read
abbrev pub reads_of : List ViewedEvent → List PartialEvent
reads_of events = map (λ event. event.read) events

-- the event is the view of the member of a history's list at a place, counted from 1; `reads_from` says how it is read
pub record IsEventOf (at : ℕ) (d : Data) (event : ViewedEvent) : Type 0 where
  pub place : event.place ≡ at
  pub moment : event.moment ≡ text_of (field (codes "eventTime") (Some d))
  pub attempt : event.attempt ≡ attempt_of (attributes_of d)
  pub failure : event.failure ≡ failure_of (attributes_of d)
  pub duration : event.duration ≡ duration_of (attributes_of d)
  pub payloads : AreValuesOf (values_of (attributes_of d)) event.payloads
  pub details : event.details ≡ details_of (attributes_of d)
  pub json : IsJsonOf d event.json

-- the events of the members, one by one
abbrev pub AreEventsOf : List Data → List ViewedEvent → Type 0
AreEventsOf members events = Each IsEventOf 1 members events

-- the number of the task to which an event belongs, if so many were completed before it: an event that records what
-- the workflow did in a task belongs to the last of these, and any other to the next one
abbrev pub task_of : ℕ → ViewedEvent → ℕ
task_of completed event = if is_commanded event then completed else completed + 1

-- how many tasks are completed after the event
abbrev pub completed_with : ℕ → ViewedEvent → ℕ
completed_with completed event = if completes_task event then completed + 1 else completed

-- the tasks to which events belong, if so many tasks were completed before them
unfoldable pub tasks_from : ℕ → List ViewedEvent → List ℕ
tasks_from completed [] = []
tasks_from completed (event ∷ events) = task_of completed event ∷ tasks_from (completed_with completed event) events

-- the view of the members of a history's list
pub record IsViewOf (members : List Data) (view : View) : Type 0 where
  pub run : view.run ≡ run_of members
  pub events : AreEventsOf members view.events
  pub reads : reads_of view.events ≡ reads_from 1 None members
  pub things : view.things ≡ (gathered view.events).things
  pub links : view.links ≡ (gathered view.events).links
  pub tasks : view.tasks ≡ tasks_from 0 view.events
  pub unsupported : view.unsupported ≡ unsupported_kinds view.events
  pub sums : AreSums (typed_things view) view.sums

-- the view is the other one with what its activities, timers and child workflows of each type come to
pub record IsSummed (view new : View) : Type 0 where
  pub others : new ≡ record view { sums = new.sums }
  pub sums : AreSums (typed_things new) new.sums

-- the members of the list of the history that the bytes encode, or why there are none
abbrev pub members_of : List ℕ → Result (List Data) ReadFault
members_of bytes = do
  d ← document_within bytes
  or_fault NoEvents (events_in d)

-- the view of the bytes of a history
pub record IsViewIn (bytes : List ℕ) (view : View) : Type 0 where
  pub members : List Data
  pub reads : members_of bytes ≡ Ok members
  pub viewed : IsViewOf members view
