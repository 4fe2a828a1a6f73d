-- What contracts say of sources of tasks.
use Rattle.std.specs.Prelude.{◌↔◌, ℕ, ◌<◌, ◌≤◌, List, Option, Some, None, Result, Ok, Err}
use Rattle.wh_events.specs.declared.event.Event.{Event}
use Rattle.wh_events.specs.declared.key.RunKey.{RunKey}
use Rattle.wh_slots.specs.declared.TaskName.{TaskName}
use Rattle.wh_tasks.specs.declared.source.Polled.{Polled}
use Rattle.wh_tasks.specs.declared.source.Polled.TheVariants.{Task, Nothing, Closed}
use Rattle.wh_tasks.specs.declared.source.Sent.{Sent}
use Rattle.wh_tasks.specs.declared.source.SourceFault.{SourceFault}
use Rattle.wh_tasks.specs.declared.source.SourceFault.TheVariants.{Source, OutOfMemory}
use Rattle.wh_tasks.specs.declared.source.WorkflowTask.{WorkflowTask}
use Rattle.wh_tasks.specs.declared.source.ActivityTask.{ActivityTask}
use Rattle.wh_tasks.specs.declared.source.ActivityAnswer.{ActivityAnswer}

-- a task of either kind
pub data Delivery : Type 0 where
  Workflow : WorkflowTask → Delivery
  Activity : ActivityTask → Delivery

-- the answers that a source was sent, each with its task's name
abbrev pub Answers : Type 0
Answers = List (TaskName × Sent)

-- which tasks a source delivers
abbrev pub Delivers : Type 1
Delivers = Delivery → Type 0

-- which histories a source may fetch of a run, up to a number
abbrev pub MayFetch : Type 1
MayFetch = RunKey → ℕ → List Event → Type 0

-- which answers an activity task may get
abbrev pub Answerable : Type 1
Answerable = ActivityTask → ActivityAnswer → Type 0

-- both deliver the same tasks
abbrev pub SameDeliveries : Delivers → Delivers → Type 0
SameDeliveries p q = (task : Delivery) → p task ↔ q task

-- both fetch the same histories
abbrev pub SameFetching : MayFetch → MayFetch → Type 0
SameFetching p q = (key : RunKey) (up_to : ℕ) (history : List Event) → p key up_to history ↔ q key up_to history

-- a source delivers the same tasks and fetches the same histories as before
pub record SameTasks (old_delivers : Delivers) (old_tells : MayFetch)
    (new_delivers : Delivers) (new_tells : MayFetch) : Type 0 where
  pub delivers : SameDeliveries old_delivers new_delivers
  pub fetches : SameFetching old_tells new_tells

-- a source still comes from all the sources that it came from before
abbrev pub KeepsOrigin : {S : Type 0} → (S → S → Type 0) → S → S → Type 0
KeepsOrigin comes_from old new = (first : _) → comes_from old first → comes_from new first

-- what a call keeps of a source: `delivers`, `fetches`, and the sources that it came from
pub record KeepsSource {S : Type 0} (delivers : S → Delivers) (fetches : S → MayFetch) (comes_from : S → S → Type 0)
    (old new : S) : Type 0 where
  pub same : SameTasks (delivers old) (fetches old) (delivers new) (fetches new)
  pub origin : KeepsOrigin comes_from old new

-- the runs of all tasks may be cached
abbrev pub CachesAll : {S : Type 0} → (S → TaskName → Type 0) → S → Type 0
CachesAll caches source = (name : TaskName) → caches source name

-- no run may be cached now that might not be cached before
abbrev pub CachesNoMore : {S : Type 0} → (S → TaskName → Type 0) → S → S → Type 0
CachesNoMore caches old new = (name : TaskName) → caches new name → caches old name

-- both allow the same answers
abbrev pub SameMay : Answerable → Answerable → Type 0
SameMay p q = (task : ActivityTask) (answer : ActivityAnswer) → p task answer ↔ q task answer

-- the property holds for the polled task, if there is one
abbrev pub IfTask : {A : Type 0} → (A → Type 0) → Polled A → Type 0
IfTask p (Task task) = p task
IfTask p Nothing = Unit {0}
IfTask p Closed = Unit {0}

-- the count of failures never falls, and it rises if the source failed
abbrev pub FailsOnly : {A : Type 0} → Result A SourceFault → ℕ → ℕ → Type 0
FailsOnly (Ok x) old new = old ≤ new
FailsOnly (Err Source) old new = old < new
FailsOnly (Err OutOfMemory) old new = old ≤ new

-- the count of failures never fell, and it rose if a fault of the source is kept
abbrev pub RoseIfFailed : Option SourceFault → ℕ → ℕ → Type 0
RoseIfFailed None old new = old ≤ new
RoseIfFailed (Some Source) old new = old < new
RoseIfFailed (Some OutOfMemory) old new = old ≤ new
