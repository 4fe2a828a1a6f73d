-- A run took a path exactly where it brings its table and a workflow task of it was started.
use Rattle.std.proofs.Common.{◌≡◌, ℕ, Bool, true, false, List, [], ◌∷◌, length, Option, Some, None, Result, Ok, Err, ℤ, refl, ap, sym, subst, ◌∙◌, ◌↔◌, is_some, arith}
use Rattle.std.specs.Prelude.{◌≢◌, if◌then◌else◌, IsSome, nat_eq}
use Rattle.std.proofs.lemmas.Bool.Decides.{nat_tests}
use Rattle.wh_events.specs.declared.event.Event.{Event}
use Rattle.wh_events.specs.declared.event.Payload.{Payload}
use Rattle.wh_events.specs.declared.place.PlaceFault.{PlaceFault}
use Rattle.wh_events.specs.Cuts.{cuts}
use Rattle.wh_events.specs.Places.{history_fault}
use Rattle.wh_events.specs.InPlace.{InPlace}
use Rattle.wh_events.proofs.Standing.{no_fault_where_in_place}
use Rattle.wh_json.specs.Events.{history}
use Rattle.wh_json.specs.declared.fault.ReadFault.{ReadFault}
use Rattle.wh_workflow.specs.declared.job.Job.{Job}
use Rattle.wh_workflow.specs.declared.job.Job.TheVariants as jobs
use Rattle.wh_workflow.specs.Scripts.{Settled}
use Rattle.wh_workflow.specs.ActivationScripts.{Step, state_after}
use Rattle.wh_activation.specs.Cutting.{jobs_at}
use Rattle.wh_replay.specs.Replays.{workflow_of}
use Rattle.wh_replay.specs.Tracking.{in_place}
use Rattle.wh_replay.specs.Views.{context_after}
use Rattle.wh_explained_tasks.specs.declared.ExplainedTask.{ExplainedTask}
use Rattle.wh_explain.specs.Explaining.{IsTask, AreTasks, all, stopped, passed, AreTasksIf, AreTasksPlaced, AreTasksIn}
use Rattle.wh_rows.specs.Rules.{BeginsNowhere, has_state, rows_fault, table_fault}
use Rattle.wh_rows.specs.Tables.{Row}
use Rattle.wh_rows.specs.Rows.{row_for}
use Rattle.wh_row_rules.specs.declared.owned.OwnedTable.{OwnedTable}
use Rattle.wh_row_rules.specs.Broken.{definition}
use Rattle.wh_table_text.specs.declared.fault.TableFault.{TableFault}
use Rattle.wh_table.specs.declared.state.TableState.{TableState}
use Rattle.wh_table.specs.Program.{front, tail, table_in, no_table, is_table, opened, program}
use Rattle.wh_table.specs.Laws.{read_breaks_none}
use Rattle.wh_file_page.specs.declared.way.Turn.{Turn}
use Rattle.wh_file_page.specs.declared.way.Way.{Way}
use Rattle.wh_file_page.specs.Ways.{turns_of, left_by, way_to, before_start, way_over, IsWayOf}
use Rattle.wh_file_page.specs.Brought.{input_of, BringsIn, BringsTable}
use Rattle.wh_file_page.proofs.Given.{HasInput, StepsHave, task_has, steps_have}
use Rattle.wh_file_page.proofs.Opening.{first_jobs, Opens, opens}

-- the table that a run is left with which brings this
abbrev left_with : Result OwnedTable TableFault → OwnedTable
left_with (Ok table) = table
left_with (Err fault) = no_table

opened_with : (kind : List ℕ) (payload : List Payload) (table : Result OwnedTable TableFault) (job : Job)
    → (opened kind payload table job).table ≡ left_with table
opened_with kind payload (Ok table) job = refl
opened_with kind payload (Err fault) job = refl

starts_with : (state : TableState) (kind : List ℕ) (given input : List Payload) → given ≡ input
    → (program.after state (jobs.Start kind given)).table ≡ left_with (table_in input)
starts_with state kind given input same =
    opened_with kind (front given) (table_in given) (jobs.Start kind (tail given)) ∙ ap (λ l. left_with (table_in l)) same

-- a run keeps the table that its input has, whatever comes
keeps : (input : List Payload) (state : TableState) (job : Job) → HasInput input job → state.table ≡ left_with (table_in input)
    → (program.after state job).table ≡ left_with (table_in input)
keeps input state (jobs.Start kind given) same left = starts_with state kind given input same
keeps input state _ same left = left

steps_keep : (input : List Payload) (steps : List Step) (state : TableState) → StepsHave input steps
    → state.table ≡ left_with (table_in input) → (state_after program state steps).table ≡ left_with (table_in input)
steps_keep input [] state has left = left
steps_keep input (step ∷ steps) state has left =
    steps_keep input steps (program.after state step.job) has.1 (keeps input state step.job has.0 left)

abbrev TasksHave : List Payload → List ExplainedTask → Type 0
TasksHave input [] = Unit {0}
TasksHave input (task ∷ tasks) = StepsHave input task.steps × TasksHave input tasks

tasks_keep : (input : List Payload) (tasks : List ExplainedTask) (state : TableState) → TasksHave input tasks
    → state.table ≡ left_with (table_in input) → (left_by state tasks).table ≡ left_with (table_in input)
tasks_keep input [] state has left = left
tasks_keep input (task ∷ tasks) state has left =
    tasks_keep input tasks (state_after program state task.steps) has.1 (steps_keep input task.steps state has.0 left)

starts_job : (state : TableState) (job : Job) (kind : List ℕ) (input : List Payload) → job ≡ jobs.Start kind input
    → (program.after state job).table ≡ left_with (table_in input)
starts_job state job kind input is =
    ap (λ (one : Job). (program.after state one).table) is ∙ starts_with state kind input input refl

-- steps that begin with the start leave the table, whatever was there before
steps_start : (kind : List ℕ) (input : List Payload) (steps : List Step) (state : TableState) → StepsHave input steps
    → Opens steps kind input → (state_after program state steps).table ≡ left_with (table_in input)
steps_start kind input steps state has begun =
    let there : StepsHave input (begun.first ∷ begun.second ∷ begun.later) = subst (StepsHave input) begun.are has in
    let started : TableState = program.after state begun.first.job in
    ap (λ l. (state_after program state l).table) begun.are
    ∙ steps_keep input begun.later (program.after started begun.second.job) there.1.1
    (starts_job started begun.second.job kind input begun.starts)

-- a run without a table is given nothing at a time
quiet_before : (kind : List ℕ) (time : ℤ) → program.gives (program.initial kind) (jobs.Time time) ≡ []
unfolding row_for
quiet_before kind time = refl

module _ (events : List Event) (placed : InPlace events) where
  task_steps_have : (last number : ℕ) (state : TableState) (settled : Settled) (task : ExplainedTask)
      → IsTask program events last number state settled task → StepsHave (input_of events) task.steps
  task_steps_have last number state settled task is =
      steps_have (input_of events) task.steps (jobs_at events last number) is.steps.script.first_jobs.0
      is.steps.script.first_jobs.1 (task_has events placed last number)

  tasks_have : (last : ℕ) (numbers : List ℕ) (state : TableState) (settled : Settled) (tasks : List ExplainedTask)
      → AreTasks program events last numbers state settled tasks → TasksHave (input_of events) tasks
  tasks_have last numbers state settled tasks (all here now known) = tt
  tasks_have last numbers state settled tasks (stopped here number rest now known task is stop) =
      (task_steps_have here number now known task is, tt)
  tasks_have last numbers state settled tasks (passed here number rest now known task more is stop later) = (
    task_steps_have here number now known task is,
    tasks_have number rest (state_after program now task.steps) _ more later,
  )

  first_opens : (number : ℕ) (rest : List ℕ) (settled : Settled) (task : ExplainedTask) → cuts events ≡ number ∷ rest
      → IsTask program events 0 number (program.initial (workflow_of events)) settled task
      → Opens task.steps (workflow_of events) (input_of events)
  first_opens number rest settled task are is =
      opens program (context_after events 0 number) (program.initial (workflow_of events)) settled events
      (jobs_at events 0 number) task.steps (first_jobs events number rest placed are) (quiet_before (workflow_of events)) is.steps

  left_table : (numbers : List ℕ) (number : ℕ) (rest : List ℕ) (tasks : List ExplainedTask) → cuts events ≡ numbers
      → numbers ≡ number ∷ rest → AreTasks program events 0 numbers (program.initial (workflow_of events)) [] tasks
      → (left_by before_start tasks).table ≡ left_with (table_in (input_of events))
  left_table numbers number rest tasks cut are (all _ _ _) = cc
  left_table numbers number rest tasks cut are (stopped _ here others _ _ task is stop) =
      steps_start (workflow_of events) (input_of events) task.steps before_start
      (task_steps_have 0 here (program.initial (workflow_of events)) [] task is)
      (first_opens here others [] task cut is)
  left_table numbers number rest tasks cut are (passed _ here others _ _ task more is stop later) =
      tasks_keep (input_of events) more (state_after program before_start task.steps)
      (tasks_have here others _ _ more later)
      (steps_start (workflow_of events) (input_of events) task.steps before_start
      (task_steps_have 0 here (program.initial (workflow_of events)) [] task is)
      (first_opens here others [] task cut is))

no_tasks : (events : List Event) (numbers : List ℕ) (state : TableState) (settled : Settled) (tasks : List ExplainedTask)
    → numbers ≡ [] → AreTasks program events 0 numbers state settled tasks → tasks ≡ []
no_tasks events numbers state settled tasks none (all _ _ _) = refl
no_tasks events numbers state settled tasks none (stopped _ _ _ _ _ _ _ _) = cc
no_tasks events numbers state settled tasks none (passed _ _ _ _ _ _ _ _ _ _) = cc

-- a table that an input brings has rows
breaks_none : (input : List Payload) (table : OwnedTable) → table_in input ≡ Ok table → table_fault (definition table) ≡ None
breaks_none [] table is = cc
breaks_none (first ∷ others) table is = read_breaks_none first.content table is

begins_nowhere : (table : OwnedTable) → table.rows ≡ [] → table_fault (definition table) ≡ None → ⊥
begins_nowhere table is none =
    let gone : has_state table.first table.rows ≡ false = ap (has_state table.first) is in
    let broken : table_fault (definition table) ≡ Some BeginsNowhere
    = ap (λ test. if test then rows_fault (definition table) 0 table.rows else Some BeginsNowhere) gone in
    cc

some_row : (rows : List Row) → rows ≢ [] → nat_eq (length rows) 0 ≡ false
some_row [] some = absurd (some refl)
some_row (row ∷ rows) some = grind (arith, nat_tests)

-- a path is there where the table that is left has rows
way_there : (left : TableState) (turns : List Turn) → left.table.rows ≢ [] → IsSome (way_to left turns)
way_there left turns some =
    ap (λ test. is_some (if test then None else Some (way_at left turns))) (some_row left.table.rows some)
  where
    way_at : TableState → List Turn → Way
    way_at left turns = record { turns = turns; left = left }

pub way_gone : (left : TableState) (turns : List Turn) → left.table ≡ no_table → way_to left turns ≡ None
way_gone left turns is =
    ap (λ (table : OwnedTable). if nat_eq (length table.rows) 0 then None else Some (record { turns = turns; left = left })) is

no_some : (way : Option Way) → way ≡ None → IsSome way → ⊥
no_some way none some = let e : is_some way ≡ false = ap is_some none in cc

gone_over : (tasks : List ExplainedTask) → tasks ≡ [] → IsSome (way_over tasks) → ⊥
gone_over tasks none = no_some (way_over tasks) (ap way_over none ∙ way_gone before_start [] refl)

brings : (read : Result (List Event) ReadFault) (tasks : List ExplainedTask) → AreTasksIn program read tasks
    → IsSome (way_over tasks) → BringsIn read
brings (Err fault) tasks none some = absurd (gone_over tasks none some)
brings (Ok events) tasks explained some = by_place (history_fault events) refl explained
  where
    by_table : (table : Result OwnedTable TableFault) → table_in (input_of events) ≡ table → history_fault events ≡ None
        → is_table (workflow_of events) ≡ true → (numbers : List ℕ) → cuts events ≡ numbers
        → AreTasks program events 0 (cuts events) (program.initial (workflow_of events)) [] tasks → BringsIn (Ok events)
    by_table table is none knows [] are run = absurd (gone_over tasks (no_tasks events (cuts events) _ _ tasks are run) some)
    by_table (Ok table) is none knows (number ∷ rest) are run = record {
      events = events;
      are = refl;
      placed = none;
      kind = knows;
      started = λ empty. cc;
      table = table;
      brought = is;
    }
    by_table (Err fault) is none knows (number ∷ rest) are run =
        let placed = ((no_fault_where_in_place events).0 none).0 in
        absurd (no_some (way_over tasks) (way_gone (left_by before_start tasks) (turns_of before_start tasks)
        (left_table events placed (cuts events) number rest tasks refl are run ∙ ap left_with is)) some)

    by_kind : (test : Bool) → is_table (workflow_of events) ≡ test → history_fault events ≡ None
        → AreTasksIf test program events tasks → BringsIn (Ok events)
    by_kind true knows none run = by_table (table_in (input_of events)) refl none knows (cuts events) refl run
    by_kind false knows none run = absurd (gone_over tasks run some)

    by_place : (fault : Option (ℕ × PlaceFault)) → history_fault events ≡ fault
        → AreTasksPlaced (in_place fault events) program tasks → BringsIn (Ok events)
    by_place (Some fault) is run = absurd (gone_over tasks run some)
    by_place None is run = by_kind (program.knows (workflow_of events)) refl is run

-- the tasks of a history in place, of a type of tables
tasks_there : (read : Result (List Event) ReadFault) (tasks : List ExplainedTask) (events : List Event) → read ≡ Ok events
    → history_fault events ≡ None → is_table (workflow_of events) ≡ true → AreTasksIn program read tasks
    → AreTasks program events 0 (cuts events) (program.initial (workflow_of events)) [] tasks
tasks_there read tasks events is none knows explained =
    subst (λ test. AreTasksIf test program events tasks) knows
    (subst (λ fault. AreTasksPlaced (in_place fault events) program tasks) none
    (subst (λ r. AreTasksIn program r tasks) is explained))

took_by : (numbers : List ℕ) (events : List Event) (tasks : List ExplainedTask) (table : OwnedTable) → cuts events ≡ numbers
    → cuts events ≢ [] → history_fault events ≡ None → table_in (input_of events) ≡ Ok table
    → AreTasks program events 0 (cuts events) (program.initial (workflow_of events)) [] tasks → IsSome (way_over tasks)
took_by [] events tasks table are started none brought run = absurd (started are)
took_by (number ∷ rest) events tasks table are started none brought run =
    let placed = ((no_fault_where_in_place events).0 none).0 in
    let left : (left_by before_start tasks).table ≡ table
    = left_table events placed (cuts events) number rest tasks refl are run ∙ ap left_with brought in
    way_there (left_by before_start tasks) (turns_of before_start tasks)
    (λ empty. begins_nowhere table (ap (λ (one : OwnedTable). one.rows) (sym left) ∙ empty) (breaks_none (input_of events) table brought))

took : (read : Result (List Event) ReadFault) (tasks : List ExplainedTask) → AreTasksIn program read tasks → BringsIn read
    → IsSome (way_over tasks)
took read tasks explained brought =
    took_by (cuts brought.events) brought.events tasks brought.table refl brought.started brought.placed brought.brought
    (tasks_there read tasks brought.events brought.are brought.placed brought.kind explained)

-- there is a path exactly where the run brings a table and a task of it was started
pub way_where : (bytes : List ℕ) (way : Option Way) → IsWayOf bytes way → (IsSome way ↔ BringsTable bytes)
way_where bytes way is = (
  λ some. brings (history bytes) is.tasks is.explained (ap is_some (sym is.is) ∙ some),
  λ brought. ap is_some is.is ∙ took (history bytes) is.tasks is.explained brought,
)
