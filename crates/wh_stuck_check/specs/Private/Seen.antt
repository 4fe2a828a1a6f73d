-- What the program has of things and of what a run knows is what the definitions speak of.
use Rattle.std.specs.Prelude.{ℕ, suc, Bool, true, false, ◌&&◌, cond, List, [], ◌∷◌, map, Option, Some, None, Vec}
use Rattle.std.specs.declared.alloc.Global.{Global}
use Rattle.wh_events.specs.declared.place.Thing.{Thing}
use Rattle.wh_events.specs.declared.place.Thing.TheVariants as things
use Rattle.wh_workflow.specs.declared.job.Job.{Job}
use Rattle.wh_workflow.specs.declared.job.Job.TheVariants as jobs
use Rattle.wh_workflow.specs.Scripts.{Act}
use Rattle.wh_workflow.specs.Scripts.Act.{Opening, Cancelling, Asking, Closing, Other}
use Rattle.wh_rows.specs.Tables.{Row}
use Rattle.wh_rows.specs.Deciding.{text_of}
use Rattle.wh_possible_runs.specs.declared.thing.Phase.{Phase}
use Rattle.wh_possible_runs.specs.declared.thing.Touch.TheVariants.{Untouched, Canceled}
use Rattle.wh_possible_runs.specs.declared.thing.ThingState.{ThingState}
use Rattle.wh_possible_runs.specs.Things.{open_thing, cancel_thing, end_thing, start_child, phase_after_task}
use Rattle.wh_possible_runs.specs.Situations.{ThingName, Situation, is_named, with_change, past_signals}
use Rattle.wh_possible_runs.specs.Shown.{is_plain, all_plain_acts}
use Rattle.wh_stuck_check.specs.declared.things.Change.{Change}
use Rattle.wh_stuck_check.specs.declared.things.Change.TheVariants as changes
use Rattle.wh_stuck_check.specs.declared.names.ThingName.{ThingName as NameHeld}
use Rattle.wh_stuck_check.specs.declared.acts.Act.{Act as ActHeld}
use Rattle.wh_stuck_check.specs.declared.acts.Act.TheVariants as acts
use Rattle.wh_stuck_check.specs.declared.situation.Situation.{Situation as SituationHeld}

-- what a change makes of a thing
abbrev pub change_seen : Change → Thing → ThingState → Option ThingState
change_seen changes.Opens thing now = open_thing thing now
change_seen changes.Cancels thing now = cancel_thing now
change_seen changes.Ends thing now = end_thing now
change_seen changes.Starts thing now = start_child now

-- what a thing is after a task whose commands did not open it
abbrev pub phase_left : Thing → Phase → Bool → Phase
phase_left thing phase canceled =
    phase_after_task thing phase (cond canceled Canceled Untouched)

-- the name of a thing
abbrev pub name_seen : NameHeld → ThingName
name_seen name = (name.thing, name.id.now)

-- the place of a thing's name: how many names stand before it
abbrev pub place_named : Thing → List ℕ → List ThingName → ℕ
place_named thing id [] = 0
place_named thing id (name ∷ rest) = elim (is_named thing id name) [ true ↦ 0 | false ↦ suc (place_named thing id rest) ]

-- what a command does
abbrev pub act_seen : ActHeld → Act
act_seen (acts.Opens thing id) = Opening thing id.now
act_seen (acts.Cancels thing id) = Cancelling thing id.now
act_seen (acts.Asks change least greatest) = Asking change.now least greatest
act_seen acts.Closes = Closing
act_seen acts.Other = Other

-- what a run knows in a task
abbrev pub situation_seen : SituationHeld → Situation
situation_seen now = record {
  things = now.things.items;
  awaits_version = now.awaits_version;
  takes_signals = now.takes_signals;
  faulty = now.faulty;
}

-- once a signal comes; `None` if no server gives one any more
abbrev pub signal_seen : Situation → Option Situation
signal_seen now = elim now.takes_signals [ true ↦ Some now | false ↦ None ]

-- lists of things
abbrev pub lists_seen : List (Vec ThingState Global) → List (List ThingState)
lists_seen lists = map (λ list. list.items) lists

-- a row uses the name of the run nowhere
abbrev pub is_plain_row : Row → Bool
is_plain_row row = is_plain (text_of row.job) && all_plain_acts row.gives

-- once a job comes while a version is awaited
abbrev pub version_given : Job → Situation → Option Situation
version_given (jobs.Version _ _) now = Some (record now { awaits_version = false })
version_given _ now = None

-- once a job comes while none is
abbrev pub job_told : List ThingName → Job → Situation → Option Situation
job_told names (jobs.Signal _ _) now = signal_seen now
job_told names jobs.CancelRequested now = Some (record now { takes_signals = false })
job_told names (jobs.Activity id _) now = past_signals now (with_change end_thing names things.Activity id now.things)
job_told names (jobs.TimerFired id) now = past_signals now (with_change end_thing names things.Timer id now.things)
job_told names (jobs.ChildStarted id) now = past_signals now (with_change start_child names things.Child id now.things)
job_told names (jobs.Child id _) now = past_signals now (with_change end_thing names things.Child id now.things)
job_told names (jobs.Version _ _) now = None
job_told names _ now = Some now
