-- What a line of an overview of histories tells of a run.
use Rattle.std.specs.Prelude.{◌≡◌, ◌≤◌, ◌⊎◌, ◌-◌, ℕ, max, List, [], ◌∷◌, length, codes, All, Option, Some, None, slice_get, if◌then◌else◌}
use Rattle.std.specs.List.{Contains, fold}
use Rattle.wh_events.specs.declared.kind.EventKind.{EventKind}
use Rattle.wh_events.specs.declared.kind.EventKind.TheVariants.{ActivityTaskStarted}
use Rattle.wh_view.specs.declared.view.RunStatus.{RunStatus}
use Rattle.wh_view.specs.declared.view.RunStatus.TheVariants as statuses
use Rattle.wh_view.specs.declared.view.ViewedEvent.{ViewedEvent}
use Rattle.wh_view.specs.declared.view.ViewedFailure.{ViewedFailure}
use Rattle.wh_view_report.specs.Run.{is_start}
use Rattle.wh_view_report.specs.Texts.{workflow_type}

-- whether a run is open, or how it was closed, in words
abbrev pub status_phrase : RunStatus → List ℕ
status_phrase statuses.Running = codes "running"
status_phrase statuses.Completed = codes "completed"
status_phrase statuses.Failed = codes "failed"
status_phrase statuses.Canceled = codes "canceled"
status_phrase statuses.Terminated = codes "terminated"
status_phrase statuses.TimedOut = codes "timed out"
status_phrase statuses.ContinuedAsNew = codes "continued as new"

-- the event that starts a run, if its history begins with it
abbrev pub start_of : List ViewedEvent → Option ViewedEvent
start_of [] = None
start_of (event ∷ events) = if is_start event.read.kind then Some event else None

-- the workflow type of a run; empty if it is not told
abbrev pub start_type : List ViewedEvent → List ℕ
start_type events = workflow_type (start_of events)

-- when a run started, as its history writes it; empty if that is not told
abbrev pub moment_of : Option ViewedEvent → List ℕ
moment_of None = []
moment_of (Some event) = event.moment

abbrev pub start_moment : List ViewedEvent → List ℕ
start_moment events = moment_of (start_of events)

-- the attempt that an event of the kind starts of an activity; 0 for an event of another kind
abbrev pub attempt_by : Option EventKind → (attempt : ℕ) → ℕ
attempt_by (Some (ActivityTaskStarted _)) attempt = attempt
attempt_by _ attempt = 0

abbrev pub attempt_of : ViewedEvent → ℕ
attempt_of event = attempt_by event.read.kind event.attempt

-- the later of an attempt and that of an event
abbrev pub later_attempt : ℕ → ViewedEvent → ℕ
later_attempt attempt event = max attempt (attempt_of event)

-- the highest attempt of an activity that events start; 0 if they start none
abbrev pub most_attempts : List ViewedEvent → ℕ
most_attempts events = fold later_attempt 0 events

-- no activity of the events has a later attempt than this, and one has just this, unless it is 0
pub record IsHighest (events : List ViewedEvent) (most : ℕ) : Type 0 where
  pub bounds : All (λ event. attempt_of event ≤ most) events
  pub reached : (most ≡ 0) ⊎ ((event : ViewedEvent) × Contains events event × (attempt_of event ≡ most))

-- the failure that caused those before it, which is the last one
abbrev pub innermost_failure : List ViewedFailure → Option ViewedFailure
innermost_failure failures = slice_get failures (length failures - 1)

-- the type of that failure; empty if there is none
abbrev pub type_of : Option ViewedFailure → List ℕ
type_of None = []
type_of (Some failure) = failure.kind

-- its message, or else the reason that the event gives
abbrev pub message_of : Option ViewedFailure → (reason : List ℕ) → List ℕ
message_of None reason = reason
message_of (Some failure) reason = failure.message

-- the type of the first cause for which an event closed a run; empty if it tells none
abbrev pub cause_type : Option ViewedEvent → List ℕ
cause_type None = []
cause_type (Some event) = type_of (innermost_failure event.details.failures)

-- and the message of that cause
abbrev pub cause_message : Option ViewedEvent → List ℕ
cause_message None = []
cause_message (Some event) = message_of (innermost_failure event.details.failures) event.failure
