-- What a run knows in a task, and how its commands, its jobs and the next task change that.
use Rattle.std.specs.Prelude.{ℕ, Bool, true, false, not, ◌&&◌, List, [], ◌∷◌, Option, Some, None, bytes_eq}
use Rattle.wh_events.specs.declared.place.Thing.{Thing}
use Rattle.wh_events.specs.declared.place.Thing.TheVariants as things
use Rattle.wh_events.specs.Machines.{same_thing}
use Rattle.wh_workflow.specs.declared.job.Job.{Job}
use Rattle.wh_workflow.specs.declared.job.Job.TheVariants as jobs
use Rattle.wh_workflow.specs.declared.job.ActivityEnd.TheVariants as ends
use Rattle.wh_workflow.specs.declared.job.ChildEnd.TheVariants as child_ends
use Rattle.wh_workflow.specs.declared.command.Command.{Command}
use Rattle.wh_workflow.specs.Scripts.{Act, act_of}
use Rattle.wh_workflow.specs.Scripts.Act.{Opening, Cancelling, Asking}
use Rattle.wh_rows.specs.declared.row.JobPattern.TheVariants as patterns
use Rattle.wh_rows.specs.Tables.{JobPattern}
use Rattle.wh_possible_runs.specs.declared.thing.Phase.TheVariants.{Absent}
use Rattle.wh_possible_runs.specs.declared.thing.Touch.TheVariants.{Untouched}
use Rattle.wh_possible_runs.specs.declared.thing.ThingState.{ThingState}
use Rattle.wh_possible_runs.specs.Things.{open_thing, cancel_thing, is_untold, end_thing, start_child, next_thing}

-- a thing by its kind and its id
abbrev pub ThingName : Type 0
ThingName = Thing × List ℕ

-- it is the thing with this name
abbrev pub is_named : Thing → List ℕ → ThingName → Bool
is_named thing id name = same_thing thing name.0 && bytes_eq id name.1

-- the list with this one before it
abbrev pub keep_first : ThingState → Option (List ThingState) → Option (List ThingState)
keep_first one None = None
keep_first one (Some rest) = Some (one ∷ rest)

-- the list behind this one
abbrev pub change_first : Option ThingState → List ThingState → Option (List ThingState)
change_first None rest = None
change_first (Some one) rest = Some (one ∷ rest)

-- the things of these names once the one with this name changes; `None` if it can't, or has none of the names
abbrev pub with_change : (ThingState → Option ThingState) → List ThingName → Thing → List ℕ → List ThingState
    → Option (List ThingState)
with_change change [] thing id now = None
with_change change (name ∷ names) thing id [] = None
with_change change (name ∷ names) thing id (one ∷ rest) =
    elim (is_named thing id name) [
      | true ↦ change_first (change one) rest
      | false ↦ keep_first one (with_change change names thing id rest)
    ]

-- what a run knows in a task
pub record Situation : Type 0 where
  -- the things, in the order of their names
  pub things : List ThingState
  -- the last command asked for a version, which comes next
  pub awaits_version : Bool
  -- nothing but the time, the start and signals have come in this task, so that more signals may
  pub takes_signals : Bool
  -- a command was at fault
  pub faulty : Bool

-- no thing is open before the first task
abbrev pub none_open : List ThingName → List ThingState
none_open [] = []
none_open (_ ∷ names) = record { phase = Absent; touch = Untouched; started = false } ∷ none_open names

-- what a run knows before its first job
abbrev pub new_situation : List ThingName → Situation
new_situation names =
    record { things = none_open names; awaits_version = false; takes_signals = true; faulty = false }

-- after a command; `None` is a fault
abbrev pub or_faulty : Situation → Option (List ThingState) → Situation
or_faulty now None = record now { faulty = true }
or_faulty now (Some things) = record now { things = things }

-- after a command that does this. To open or to cancel what has none of the names is taken for a fault.
abbrev pub after_act : List ThingName → Act → Situation → Situation
after_act names (Opening thing id) now = or_faulty now (with_change (open_thing thing) names thing id now.things)
after_act names (Cancelling thing id) now = or_faulty now (with_change cancel_thing names thing id now.things)
after_act names (Asking change low high) now = record now { awaits_version = true }
after_act names _ now = now

-- after these commands
abbrev pub after_commands : List ThingName → List Command → Situation → Situation
after_commands names [] now = now
after_commands names (command ∷ rest) now = after_commands names rest (after_act names (act_of command) now)

-- with these things, once no more signals come in the task
abbrev pub past_signals : Situation → Option (List ThingState) → Option Situation
past_signals now None = None
past_signals now (Some things) = Some (record now { things = things; takes_signals = false })

-- Once such a job comes, while the run awaits no version; `None` if no server gives it. A child that was canceled has
-- ended without completing, as one that failed has.
abbrev pub after_news : List ThingName → JobPattern → Situation → Option Situation
after_news names patterns.Start now = Some now
after_news names (patterns.Signal _) now = elim now.takes_signals [ true ↦ Some now | false ↦ None ]
after_news names patterns.CancelRequested now = Some (record now { takes_signals = false })
after_news names (patterns.Done id) now = past_signals now (with_change end_thing names things.Activity id now.things)
after_news names (patterns.NotDone id) now =
    past_signals now (with_change end_thing names things.Activity id now.things)
after_news names (patterns.Fired id) now = past_signals now (with_change end_thing names things.Timer id now.things)
after_news names (patterns.ChildStarted id) now =
    past_signals now (with_change start_child names things.Child id now.things)
after_news names (patterns.ChildDone id) now = past_signals now (with_change end_thing names things.Child id now.things)
after_news names (patterns.ChildCanceled id) now =
    past_signals now (with_change end_thing names things.Child id now.things)
after_news names (patterns.ChildNotDone id) now =
    past_signals now (with_change end_thing names things.Child id now.things)
after_news names (patterns.Version _ _) now = None
after_news names (patterns.AnyVersion _) now = None

-- the same while it awaits a version
abbrev pub after_version : JobPattern → Situation → Option Situation
after_version (patterns.Version _ _) now = Some (record now { awaits_version = false })
after_version (patterns.AnyVersion _) now = Some (record now { awaits_version = false })
after_version _ now = None

-- once such a job comes; `None` if no server gives it
abbrev pub after_pattern : List ThingName → JobPattern → Situation → Option Situation
after_pattern names one now =
    elim now.awaits_version [ true ↦ after_version one now | false ↦ after_news names one now ]

-- the pattern of jobs like this one; `None` for the time and for what became of requests to other runs
abbrev pub pattern_of : Job → Option JobPattern
pattern_of (jobs.Start _ _) = Some patterns.Start
pattern_of (jobs.Signal name _) = Some (patterns.Signal name)
pattern_of jobs.CancelRequested = Some patterns.CancelRequested
pattern_of (jobs.Activity id (ends.Completed _)) = Some (patterns.Done id)
pattern_of (jobs.Activity id _) = Some (patterns.NotDone id)
pattern_of (jobs.TimerFired id) = Some (patterns.Fired id)
pattern_of (jobs.ChildStarted id) = Some (patterns.ChildStarted id)
pattern_of (jobs.Child id (child_ends.Completed _)) = Some (patterns.ChildDone id)
pattern_of (jobs.Child id _) = Some (patterns.ChildNotDone id)
pattern_of (jobs.Version change number) = Some (patterns.Version change number)
pattern_of _ = None

-- once a job with this pattern comes, or one that has none
abbrev pub after_any : List ThingName → Option JobPattern → Situation → Option Situation
after_any names (Some one) now = after_pattern names one now
after_any names None now = elim now.awaits_version [ true ↦ None | false ↦ Some now ]

-- once the job comes; `None` if no server gives it
abbrev pub after_job : List ThingName → Job → Situation → Option Situation
after_job names job now = after_any names (pattern_of job) now

-- the things when the next task begins, with a flag for each that has ended
abbrev pub next_things : List ThingName → List Bool → List ThingState → Option (List ThingState)
next_things (name ∷ names) (flag ∷ flags) (one ∷ rest) =
    elim (next_thing flag name.0 one) [
      | Some next ↦ keep_first next (next_things names flags rest)
      | None ↦ None
    ]
next_things _ _ [] = Some []
next_things _ _ _ = None

-- the run has been told of each end
abbrev pub all_told : List ThingState → Bool
all_told [] = true
all_told (one ∷ rest) = not (is_untold one.phase) && all_told rest

-- with these things, when a task begins
abbrev pub begin_with : Situation → Option (List ThingState) → Option Situation
begin_with now None = None
begin_with now (Some things) = Some (record now { things = things; takes_signals = true })

-- when the next task begins, in which these have ended; `None` if no server begins it
abbrev pub next_task : List ThingName → List Bool → Situation → Option Situation
next_task names ended now =
    elim (all_told now.things && not now.awaits_version) [
      | true ↦ begin_with now (next_things names ended now.things)
      | false ↦ None
    ]
