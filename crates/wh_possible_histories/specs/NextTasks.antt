-- After the record of a cut, a server begins the next task, and may give it the jobs of the next cut.
use Rattle.std.specs.Prelude.{◌≡◌, ◌<◌, Bool, true, false, not, ◌&&◌, ◌||◌, List, [], ◌∷◌, ◌++◌, length, Option, Some, None, IsTrue}
use Rattle.wh_events.specs.declared.event.Event.{Event}
use Rattle.wh_events.specs.declared.place.Thing.TheVariants as things
use Rattle.wh_events.specs.Cuts.{is_task_started, commanded}
use Rattle.wh_events.specs.Kinds.{Role, role_of}
use Rattle.wh_events.specs.Kinds.Role.{Opens, Refers}
use Rattle.wh_events.specs.declared.kind.Effect.TheVariants.{Starts}
use Rattle.wh_events.specs.Machines.{last_named, is_started}
use Rattle.wh_events.specs.Places.{is_named, fault_after}
use Rattle.wh_workflow.specs.declared.command.Command.{Command}
use Rattle.wh_workflow.specs.declared.job.Job.{Job}
use Rattle.wh_workflow.specs.Jobs.{start_job, signal_job, outside_job, jobs_by}
use Rattle.wh_workflow.specs.Names.{mismatch}
use Rattle.wh_workflow.specs.Scripts.{ActivationContext, reduced}
use Rattle.wh_possible_runs.specs.declared.thing.ThingState.{ThingState}
use Rattle.wh_possible_runs.specs.Situations.{ThingName, Situation, all_told, next_task}
use Rattle.wh_possible_runs.specs.Shown.{has_name}
use Rattle.wh_possible_runs.specs.Rules.{AreWell, AreSo, are_covered}
use Rattle.wh_possible_histories.specs.Records.{are_named, next_context}
use Rattle.wh_possible_histories.specs.Tellings.{starting, is_name, may_come}

-- an event says that the last such thing has started
abbrev pub has_begun : List Event → ThingName → Bool
has_begun events name = elim (last_named events name.0 name.1) [ None ↦ false | Some number ↦ is_started events number ]

-- one of the jobs says that the child has started
abbrev pub starts_in : ThingName → List Job → Bool
starts_in name [] = false
starts_in name (job ∷ rest) = is_name name (starting job) || starts_in name rest

-- each thing that has started, or of which one of the jobs says so, passes the test
abbrev pub begun_so : (ThingName → Bool) → List ThingName → List ThingState → List Job → Bool
begun_so test (name ∷ names) (one ∷ rest) list =
    (not (one.started || starts_in name list) || test name) && begun_so test names rest list
begun_so test _ _ list = true

-- after these events, an event of the role says once more that a child has started
abbrev pub starts_again : List Event → Role → Bool
starts_again before (Refers things.Child number Starts) = is_started before number
starts_again before _ = false

-- none of the events, the first of which follows those before, says once more that a child has started
abbrev pub start_once : List Event → List Event → Bool
start_once before [] = true
start_once before (event ∷ rest) =
    not (starts_again before (role_of event.body)) && start_once (before ++ event ∷ []) rest

-- an event of the role opens no activity, timer or child but one with a name
abbrev pub role_known : List ThingName → Role → Bool
role_known names (Opens thing id) = not (is_named thing) || has_name names thing id
role_known names _ = true

-- none of the events does
abbrev pub opens_known : List ThingName → List Event → Bool
opens_known names [] = true
opens_known names (event ∷ rest) = role_known names (role_of event.body) && opens_known names rest

-- the jobs of a cut, but for its time
abbrev pub untimed_jobs : List Event → List Event → List Job
untimed_jobs seen between =
    jobs_by start_job between ++ (jobs_by signal_job between ++ jobs_by (outside_job seen) between)

-- A history is in place up to a cut. The commanded events since the cut before it are those of the commands of that
-- cut's activation, none of which opened or canceled a thing at fault, and after which the things are as the rules say,
-- and all ends are told. Then a server begins the next task with things that are as the rules say at the cut, and may
-- give it the jobs of the cut. The names are those of all activities, timers and children that were opened, and no child
-- that has started is said to start again.
abbrev pub NextTasksCome : Type 0
NextTasksCome =
    (context : ActivationContext) (issued : List Command) (since : List Event) (cut : Event) (more : List Event)
    (recorded : Option (List Event)) (names : List ThingName) (now : Situation)
    → 0 < length context.seen → fault_after [] ((context.seen ++ since) ++ cut ∷ []) ≡ None
    → IsTrue (is_task_started cut) → AreWell context [] issued
    → mismatch ((context.seen ++ since) ++ more) (reduced context issued) (commanded since) ≡ None
    → IsTrue (are_named names) → IsTrue (start_once context.seen since) → IsTrue (are_covered names issued)
    → IsTrue (opens_known names context.seen) → AreSo context issued names now.things
    → IsTrue (begun_so (has_begun context.seen) names now.things [])
    → IsTrue (all_told now.things) → now.awaits_version ≡ false
    → let next = next_context context since cut recorded in
    (ended : List Bool) × (later : Situation) × (next_task names ended now ≡ Some later)
    × AreSo next [] names later.things × (later.awaits_version ≡ false) × IsTrue (opens_known names next.seen)
    × IsTrue (may_come names true later (untimed_jobs next.seen since))
    × IsTrue (begun_so (has_begun next.seen) names later.things (untimed_jobs next.seen since))
