-- Which heartbeats of a task are sent, whatever happens while it runs.
use Rattle.std.specs.Prelude.{ℕ, ◌≡◌, ◌≢◌, ◌+◌, ◌≤◌, List, [], ◌∷◌, Bool, true, false, Option, Some, None, is_some, if◌then◌else◌}
use Rattle.wh_events.specs.declared.event.Payload.{Payload}
use Rattle.wh_tasks.specs.Cells.{after_due, after_response, after_step, begun, due_of, ended, step_of}
use Rattle.wh_tasks.specs.Pace.{interval_of}
use Rattle.wh_tasks.specs.declared.activity_info.ActivityInfo.{ActivityInfo}
use Rattle.wh_tasks.specs.declared.cell.HeartbeatStep.{HeartbeatStep}
use Rattle.wh_tasks.specs.declared.cell.HeartbeatStep.TheVariants.{Send, Hold}
use Rattle.wh_tasks.specs.declared.cell.RunningActivity.{RunningActivity}
use Rattle.wh_tasks.specs.declared.heartbeat.HeartbeatResponse.{HeartbeatResponse}
use Rattle.wh_tasks.specs.declared.heartbeat.HeartbeatResponse.TheVariants.{GoOn, CancelRequested, Gone, Unheard}

-- what happens to a task while it runs
pub data Moment : Type 0 where
  -- its handler sends a heartbeat with details, at a time
  Gives : List Payload → Option ℕ → Moment
  -- the timer looks for what is held, at a time
  Looks : Option ℕ → Moment
  -- the response to a heartbeat with details comes
  Hears : List Payload → HeartbeatResponse → Moment
  -- its handler has ended, so that its answer comes next
  Ends : Moment

-- the details that a step sends
abbrev pub sent_in : HeartbeatStep → Option (List Payload)
sent_in (Send details) = Some details
sent_in (Hold response) = None

-- the details that are sent at a moment
abbrev pub sent_by : RunningActivity → Moment → Option (List Payload)
sent_by running (Gives details now) = sent_in (step_of running details now)
sent_by running (Looks now) = due_of running now
sent_by running (Hears details response) = None
sent_by running Ends = running.held

-- something is sent that waited for its time: all but what is sent at the end
abbrev pub is_timed : RunningActivity → Moment → Bool
is_timed running (Gives details now) = is_some (sent_by running (Gives details now))
is_timed running (Looks now) = is_some (sent_by running (Looks now))
is_timed running (Hears details response) = false
is_timed running Ends = false

-- when it is
abbrev pub time_of : Moment → Option ℕ
time_of (Gives details now) = now
time_of (Looks now) = now
time_of (Hears details response) = None
time_of Ends = None

-- the task after a moment
abbrev pub after : RunningActivity → Moment → RunningActivity
after running (Gives details now) = after_step running details now
after running (Looks now) = after_due running now
after running (Hears details response) = after_response running details response
after running Ends = ended running

-- the task after all of them
abbrev pub after_all : RunningActivity → List Moment → RunningActivity
after_all running [] = running
after_all running (moment ∷ moments) = after_all (after running moment) moments

-- when heartbeats are sent, but for the one at the end
abbrev pub sent_times : RunningActivity → List Moment → List (Option ℕ)
sent_times running [] = []
sent_times running (moment ∷ moments) =
    if is_timed running moment then time_of moment ∷ sent_times (after running moment) moments
    else sent_times (after running moment) moments

-- ---- Laws

-- at least the interval goes by from one time to the next, by a clock that has not gone back
abbrev pub IsApart : ℕ → Option ℕ → Option ℕ → Type 0
IsApart interval None next = Unit {0}
IsApart interval (Some last) None = Unit {0}
IsApart interval (Some last) (Some next) = last ≤ next → last + interval ≤ next

-- so from the last time to the first of these, and from each of these to the next
abbrev pub AreApart : ℕ → Option ℕ → List (Option ℕ) → Type 0
AreApart interval last [] = Unit {0}
AreApart interval last (next ∷ times) = IsApart interval last next × AreApart interval next times

-- whatever happens, from each heartbeat that is sent to the next at least the interval goes by, but for the one at the
-- end
abbrev pub SendsApart : Type 0
SendsApart = (running : RunningActivity) (moments : List Moment)
    → AreApart (interval_of running.info.times.heartbeat_timeout) running.sent (sent_times running moments)

-- a moment at which the handler sends no heartbeat and goes on, and the server does not say that it has no such task
abbrev pub is_quiet : Moment → Bool
is_quiet (Gives details now) = false
is_quiet (Looks now) = true
is_quiet (Hears details GoOn) = true
is_quiet (Hears details CancelRequested) = true
is_quiet (Hears details Gone) = false
is_quiet (Hears details Unheard) = true
is_quiet Ends = false

-- so at each of them
abbrev pub AreQuiet : List Moment → Type 0
AreQuiet [] = Unit {0}
AreQuiet (moment ∷ moments) = (is_quiet moment ≡ true) × AreQuiet moments

-- the last details that were not sent are what is held, until they are sent, others are given, or the server says that
-- it has no such task: so they are what the timer sends next
abbrev pub LastDetailsAreHeld : Type 0
LastDetailsAreHeld = (running : RunningActivity) (details : List Payload) (now : Option ℕ) (moments : List Moment)
    → running.is_over ≡ false → sent_by running (Gives details now) ≡ None → AreQuiet moments
    → sent_times (after running (Gives details now)) moments ≡ []
    → (after_all (after running (Gives details now)) moments).held ≡ Some details

-- if the handler ends before that, they are what is sent at the end, before the answer
abbrev pub EndSendsLast : Type 0
EndSendsLast = (running : RunningActivity) (details : List Payload) (now : Option ℕ) (moments : List Moment)
    → running.is_over ≡ false → sent_by running (Gives details now) ≡ None → AreQuiet moments
    → sent_times (after running (Gives details now)) moments ≡ []
    → sent_by (after_all (after running (Gives details now)) moments) Ends ≡ Some details

-- after the end no heartbeat is sent, whatever happens
abbrev pub NoneAfterEnd : Type 0
NoneAfterEnd = (running : RunningActivity) (moments : List Moment) → sent_times (after running Ends) moments ≡ []

-- at each moment what is held is sent, or still held, or later details are, unless the heartbeats have ended; and
-- details of which no response was heard are held, or later ones are
pub record NothingIsLost : Type 0 where
  pub held : (running : RunningActivity) (moment : Moment) → is_some (sent_by running moment) ≡ false
      → (after running moment).is_over ≡ false → is_some running.held ≡ true
      → is_some (after running moment).held ≡ true
  pub unheard : (running : RunningActivity) (details : List Payload)
      → is_some (after running (Hears details Unheard)).held ≡ true

-- the first heartbeat of a task is sent at once
abbrev pub FirstIsSent : Type 0
FirstIsSent = (token : List ℕ) (info : ActivityInfo) (details : List Payload) (now : Option ℕ)
    → sent_by (begun token info) (Gives details now) ≡ Some details

-- it is sent, or its response does not say that the activity goes on as before
abbrev pub IsWarned : HeartbeatStep → Type 0
IsWarned (Send details) = Unit {0}
IsWarned (Hold response) = response ≢ GoOn

-- once a response said that the activity is to be canceled, so do those to heartbeats that are held, whatever happens
abbrev pub CancelIsTold : Type 0
CancelIsTold = (running : RunningActivity) (details next : List Payload) (now : Option ℕ) (moments : List Moment)
    → IsWarned (step_of (after_all (after running (Hears details CancelRequested)) moments) next now)
