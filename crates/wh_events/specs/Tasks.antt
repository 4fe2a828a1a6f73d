-- Which places of a history are cuts, and which events are the record of one, stated by the places of events.
use Rattle.std.specs.Prelude.{◌≡◌, ℕ, ◌<◌, ◌↔◌, ◌⊎◌, List, [], ◌∷◌, ◌++◌, filter, drop, IsTrue, All, Contains}
use Rattle.std.specs.List.Sorted.{IsStrictlyIncreasing}
use Rattle.wh_events.specs.declared.event.Event.{Event}
use Rattle.wh_events.specs.declared.kind.EventKind.TheVariants.{WorkflowTaskStarted, WorkflowTaskCompleted}
use Rattle.wh_events.specs.Cuts.{is_inert, is_commanded, is_cut, is_recorded, cuts, record_of}
use Rattle.wh_events.specs.InPlace.{IsAt}

-- a workflow task starts at the place
abbrev pub StartsTask : List Event → ℕ → Type 0
StartsTask events place = (event : Event) × IsAt events place event × (event.body ≡ WorkflowTaskStarted)

-- every event after the place is inert
abbrev pub OnlyInertAfter : List Event → ℕ → Type 0
OnlyInertAfter events place = (i : ℕ) (later : Event) → place < i → IsAt events i later → IsTrue (is_inert later)

-- the event at the next place is the first core event after the place
pub record IsNextCore (events : List Event) (place next : ℕ) (event : Event) : Type 0 where
  pub later : place < next
  pub stands : IsAt events next event
  pub core : ¬ IsTrue (is_inert event)
  pub inert_between : (i : ℕ) (other : Event) → place < i → i < next → IsAt events i other → IsTrue (is_inert other)

-- the first core event after the place completes a workflow task
abbrev pub CompletesNext : List Event → ℕ → Type 0
CompletesNext events place =
    (next : ℕ) × (event : Event) × IsNextCore events place next event × (event.body ≡ WorkflowTaskCompleted)

-- a live cut: a task starts there, and no core event follows
abbrev pub IsLiveCut : List Event → ℕ → Type 0
IsLiveCut events place = StartsTask events place × OnlyInertAfter events place

-- a recorded cut: a task starts there, and the first core event that follows completes it
abbrev pub IsRecordedCut : List Event → ℕ → Type 0
IsRecordedCut events place = StartsTask events place × CompletesNext events place

-- none of the events completes a task
abbrev pub CompletesNone : List Event → Type 0
CompletesNone events = All (λ event. ¬ (event.body ≡ WorkflowTaskCompleted)) events

-- the list ends at once, or its first event completes a task
abbrev pub EndsOrCompletes : List Event → Type 0
EndsOrCompletes [] = Unit
EndsOrCompletes (event ∷ _) = event.body ≡ WorkflowTaskCompleted

-- these are the events after the first completed task of the rest and before the next one or the end
pub record IsBetweenTasks (rest between : List Event) : Type 0 where
  pub before : List Event
  pub completed : Event
  pub after : List Event
  pub whole : rest ≡ before ++ completed ∷ (between ++ after)
  pub first : CompletesNone before
  pub completes : completed.body ≡ WorkflowTaskCompleted
  pub stays : CompletesNone between
  pub ends : EndsOrCompletes after

-- the record: the commanded events of those, or nothing if no task is completed
abbrev pub IsRecord : List Event → List Event → Type 0
IsRecord rest record_events = (CompletesNone rest × (record_events ≡ []))
    ⊎ ((between : List Event) × IsBetweenTasks rest between × (record_events ≡ filter is_commanded between))

-- an event is a cut that the events after it don't record exactly when its place is a live cut
abbrev pub LiveCutIsSaid : Type 0
LiveCutIsSaid = (events : List Event) (place : ℕ) (event : Event) → IsAt events place event
    → (IsTrue (is_cut event (drop place events)) × ¬ IsTrue (is_recorded (drop place events))) ↔ IsLiveCut events place

-- an event is a cut that the events after it record exactly when its place is a recorded cut
abbrev pub RecordedCutIsSaid : Type 0
RecordedCutIsSaid = (events : List Event) (place : ℕ) (event : Event) → IsAt events place event
    → (IsTrue (is_cut event (drop place events)) × IsTrue (is_recorded (drop place events)))
    ↔ IsRecordedCut events place

-- if each event's number is its place, the cuts are the places of the live and the recorded cuts, in order
abbrev pub CutsAreListed : Type 0
CutsAreListed = (events : List Event) → ((i : ℕ) (event : Event) → IsAt events i event → event.number ≡ i)
    → ((place : ℕ) → Contains (cuts events) place ↔ (IsLiveCut events place ⊎ IsRecordedCut events place))
    × IsStrictlyIncreasing (cuts events)

-- the record of a cut is what the events after it say
abbrev pub RecordIsSaid : Type 0
RecordIsSaid = (rest record_events : List Event) → (record_of rest ≡ record_events) ↔ IsRecord rest record_events
