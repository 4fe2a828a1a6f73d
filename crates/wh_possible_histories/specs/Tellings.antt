-- What a server tells a run of its things in a task.
use Rattle.std.specs.Prelude.{◌≡◌, Bool, true, false, not, ◌&&◌, ◌||◌, List, [], ◌∷◌, Option, Some, None, Err, IsTrue, IsFalse}
use Rattle.wh_events.specs.declared.place.Thing.TheVariants as things
use Rattle.wh_workflow.specs.declared.fault.WorkflowFault.{WorkflowFault}
use Rattle.wh_workflow.specs.declared.fault.WorkflowFault.TheVariants.{IdInUse, IdReused, NotOpen, AlreadyCancelling}
use Rattle.wh_workflow.specs.declared.job.Job.{Job}
use Rattle.wh_workflow.specs.declared.job.Job.TheVariants as jobs
use Rattle.wh_workflow.specs.Scripts.{ActivationContext}
use Rattle.wh_workflow.specs.Activations.{Progress, activate}
use Rattle.wh_workflow.specs.ActivationScripts.{is_version}
use Rattle.wh_rows.specs.declared.row.RowsState.{RowsState}
use Rattle.wh_rows.specs.Tables.{CommandTemplate, Row, Definition}
use Rattle.wh_rows.specs.Rows.{is_start, program}
use Rattle.wh_possible_runs.specs.declared.thing.Phase.{Phase}
use Rattle.wh_possible_runs.specs.declared.thing.Phase.TheVariants.{EndTold}
use Rattle.wh_possible_runs.specs.declared.thing.ThingState.{ThingState}
use Rattle.wh_possible_runs.specs.Things.{is_untold, is_running}
use Rattle.wh_possible_runs.specs.Situations.{ThingName, is_named, Situation}
use Rattle.wh_possible_runs.specs.PossibleRuns.{Move, moves_on, moves_begin, follow}
use Rattle.wh_possible_runs.specs.Configurations.{act_by}
use Rattle.wh_possible_runs.specs.Shown.{has_name, are_plain}
use Rattle.wh_possible_runs.specs.Rules.{are_distinct, is_covered, AreSo}
use Rattle.wh_possible_histories.specs.Records.{are_named}

-- a command that opens or cancels a thing is at fault
abbrev pub is_stuck : WorkflowFault → Bool
is_stuck IdInUse = true
is_stuck IdReused = true
is_stuck NotOpen = true
is_stuck AlreadyCancelling = true
is_stuck _ = false

-- what the job says has ended
abbrev pub ending : Job → Option ThingName
ending (jobs.Activity id _) = Some (things.Activity, id)
ending (jobs.TimerFired id) = Some (things.Timer, id)
ending (jobs.Child id _) = Some (things.Child, id)
ending _ = None

-- the child that the job says has started
abbrev pub starting : Job → Option ThingName
starting (jobs.ChildStarted id) = Some (things.Child, id)
starting _ = None

-- there is a name, and it is this one
abbrev pub is_name : ThingName → Option ThingName → Bool
is_name name None = false
is_name name (Some other) = is_named other.0 other.1 name

-- a server may tell so of a thing in this phase, that has started or not: its end once, and no later than in the task
abbrev pub takes : ThingName → Phase → Bool → List Job → Bool
takes name phase started [] = not (is_untold phase)
takes name phase started (job ∷ rest) =
    elim (is_name name (ending job)) [
      | true ↦ is_untold phase && takes name EndTold started rest
      | false ↦ elim (is_name name (starting job)) [
        | true ↦ ((is_running phase || is_untold phase) && not started) && takes name phase true rest
        | false ↦ takes name phase started rest
      ]
    ]

-- a server may tell so of each of these things
abbrev pub all_take : List ThingName → List ThingState → List Job → Bool
all_take [] [] list = true
all_take (name ∷ names) (one ∷ rest) list = takes name one.phase one.started list && all_take names rest list
all_take _ _ list = false

-- there is no name, or it is one of these
abbrev pub is_known : List ThingName → Option ThingName → Bool
is_known names None = true
is_known names (Some name) = has_name names name.0 name.1

-- the job is a signal
abbrev pub is_any_signal : Job → Bool
is_any_signal (jobs.Signal _ _) = true
is_any_signal _ = false

-- signals may still come after the job
abbrev pub lets_signals : Job → Bool
lets_signals jobs.CancelRequested = false
lets_signals (jobs.Activity _ _) = false
lets_signals (jobs.TimerFired _) = false
lets_signals (jobs.ChildStarted _) = false
lets_signals (jobs.Child _ _) = false
lets_signals _ = true

-- signals come before what is told of things
abbrev pub in_order : Bool → List Job → Bool
in_order early [] = true
in_order early (job ∷ rest) =
    elim (is_any_signal job) [ true ↦ early && in_order early rest | false ↦ in_order (early && lets_signals job) rest ]

-- each job tells of things with these names alone, and none is a version
abbrev pub are_known : List ThingName → List Job → Bool
are_known names [] = true
are_known names (job ∷ rest) =
    (is_known names (ending job) && is_known names (starting job)) && (not (is_version job) && are_known names rest)

-- the moves begin as for a real run, or go on if the run has started
abbrev pub moves_fit : Bool → List Move → Bool
moves_fit true moves = moves_on moves
moves_fit false moves = moves_begin moves

-- the jobs begin with the only start, or have none if the run has started
abbrev pub jobs_fit : Bool → List Job → Bool
jobs_fit true [] = true
jobs_fit true (job ∷ rest) = not (is_start job) && jobs_fit true rest
jobs_fit false [] = false
jobs_fit false (job ∷ rest) = is_start job && jobs_fit true rest

-- a server may give these jobs in a task, to a run that has started or is to start
abbrev pub may_come : List ThingName → Bool → Situation → List Job → Bool
may_come names begun now list =
    all_take names now.things list && (in_order now.takes_signals list && (are_known names list && jobs_fit begun list))

-- whatever moves a server makes from here, no command is at fault
abbrev pub IsFreeFrom : Definition → List ThingName → Bool → RowsState → Situation → Type 0
IsFreeFrom table names begun state now =
    (moves : List Move) (last : Situation) → IsTrue (moves_fit begun moves)
    → follow table names state now moves ≡ Some last → IsFalse last.faulty

-- what the commands of rows open or cancel has one of the names
abbrev pub templates_known : List ThingName → List CommandTemplate → Bool
templates_known names [] = true
templates_known names (one ∷ rest) = is_covered names (act_by one) && templates_known names rest

abbrev pub rows_known : List ThingName → List Row → Bool
rows_known names [] = true
rows_known names (row ∷ rest) = templates_known names row.gives && rows_known names rest

-- the names are those of activities, timers and children, no two are the same, they are all that the table opens or
-- cancels, and it uses the name of the run nowhere
abbrev pub are_names_of : Definition → List ThingName → Bool
are_names_of table names =
    (are_distinct names && are_named names) && (rows_known names table.rows && are_plain table.rows)

-- If things are as the rules say at a cut, a server may give the jobs, and whatever a server does from here no command
-- is at fault, then the activation does not fail since a command opens or cancels a thing at fault.
abbrev pub ActivationsNeverStick : Definition → List ThingName → Type 0
ActivationsNeverStick table names =
    (context : ActivationContext) (begun : Bool) (list : List Job) (first : Progress RowsState) (now : Situation)
    (fault : WorkflowFault)
    → IsTrue (are_names_of table names) → first.script.issued ≡ [] → AreSo context [] names now.things
    → now.awaits_version ≡ false → IsTrue (may_come names begun now list)
    → IsFreeFrom table names begun first.state now → activate (program table) context list first ≡ Err fault
    → IsFalse (is_stuck fault)
