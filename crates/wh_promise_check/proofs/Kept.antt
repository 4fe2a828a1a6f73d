-- If replay accepts a history, its activations issue the commands of a run that begins with the only start.
use Rattle.std.proofs.Common.{◌≡◌, ℕ, Bool, true, false, not, List, [], ◌∷◌, ◌++◌, Option, Some, None, Result, Ok, Err, refl, ap, sym, subst, ◌∙◌}
use Rattle.std.specs.Prelude.{if◌then◌else◌}
use Rattle.std.proofs.lemmas.Bool.{and_parts}
use Rattle.wh_events.specs.declared.event.Event.{Event}
use Rattle.wh_events.specs.declared.place.PlaceFault.{PlaceFault}
use Rattle.wh_events.specs.Cuts.{is_cut}
use Rattle.wh_events.specs.Places.{is_start, history_fault}
use Rattle.wh_workflow.specs.declared.job.Job.{Job}
use Rattle.wh_workflow.specs.declared.job.Job.TheVariants as jobs
use Rattle.wh_workflow.specs.declared.command.Command.{Command}
use Rattle.wh_workflow.specs.declared.fault.WorkflowFault.{WorkflowFault}
use Rattle.wh_workflow.specs.declared.fault.Mismatch.{Mismatch}
use Rattle.wh_workflow.specs.Law.{Program, IsLawful}
use Rattle.wh_workflow.specs.Jobs.{jobs_of}
use Rattle.wh_workflow.specs.Names.{mismatch}
use Rattle.wh_workflow.specs.Scripts.{ActivationContext, reduced}
use Rattle.wh_workflow.specs.Activations.{and_then, Progress, activate}
use Rattle.wh_replay.specs.declared.fault.Fault.{Fault}
use Rattle.wh_replay.specs.Replays.{ReplayResult, Replayed, context_at, begin_at, unless_mismatch, close_task, task_after, task, reached, replay_after, start, workflow_kind, workflow_of, replay_known, replay_placed, replay_tasks, with_machines, replay}
use Rattle.wh_events.specs.Machines.{machines_of}
use Rattle.wh_rows.specs.declared.row.RowsState.{RowsState}
use Rattle.wh_rows.specs.Tables.{Definition}
use Rattle.wh_rows.specs.Rows.{program, initial, gives, after, row_gives}
use Rattle.wh_rows.specs.Laws.{after_all}
use Rattle.wh_rows.specs.Courses.{Entry, gave, course, goes_on, begins}
use Rattle.wh_rows.specs.Promises.{Promise, PromisesAll, KeptAllIn}
use Rattle.wh_rows.proofs.Sound.{no_row_at}
use Rattle.wh_promise_check.specs.Kept.{without_markers, commands_in, HasIssued, ended, passed, ran, Told, told_end, told_on, told_cut, input_in, input_of, HistoriesAreCourses, HistoriesKeep}
use Rattle.wh_promise_check.proofs.Stepped.{plain_append, left_by, given_by, left_append, given_append, TimeGivesNothing, Activated, activate_does}
use Rattle.wh_table.proofs.Starts.{goes_append}
use Rattle.wh_promise_check.proofs.Started.{no_cut, no_starts, no_starts_append, StartsOnce, starts_once, cut_goes, BeginsWith, not_begun, begins_by, cut_begins, interleaved_goes}

gave_first : (first : List Command) (rest : List Entry) → commands_in (gave first ++ rest) ≡ first ++ commands_in rest
gave_first [] rest = refl
gave_first (command ∷ first) rest = ap (λ l. command ∷ l) (gave_first first rest)

no_starts_one : (between : List Event) (event : Event) (rest : List Event) → no_starts between ≡ true → no_starts (event ∷ rest) ≡ true
    → (no_starts (between ++ event ∷ []) ≡ true) × (no_starts rest ≡ true)
no_starts_one between event rest first second =
    let parts : (not (is_start event) ≡ true) × (no_starts rest ≡ true) = and_parts (not (is_start event)) (no_starts rest) second in
    (no_starts_append between (event ∷ []) first (rw parts.0 refl), parts.1)

-- if no event begins a run, no job starts it
told_goes : (before between rest : List Event) (list : List Job) → Told before between rest list
    → no_starts between ≡ true → no_starts rest ≡ true → goes_on list ≡ true
told_goes before between rest list (told_end b t) first second = refl
told_goes before between rest list (told_on b t event later l cut told) first second =
    let parts = no_starts_one between event later first second in
    told_goes (before ++ event ∷ []) (between ++ event ∷ []) later list told parts.0 parts.1
told_goes before between rest list (told_cut b t event later here l cut told next) first second =
    let parts = no_starts_one between event later first second in
    goes_append here l
    (interleaved_goes (jobs_of (before ++ event ∷ []) between event) here told (cut_goes (before ++ event ∷ []) between event first))
    (told_goes (before ++ event ∷ []) [] later l next refl parts.1)

-- if the first event that no task has seen begins the run, the jobs begin with its start
told_begins : (before : List Event) (first : Event) (between rest : List Event) (list : List Job) → Told before (first ∷ between) rest list
    → is_start first ≡ true → no_starts between ≡ true → no_starts rest ≡ true
    → BeginsWith (workflow_kind first.body) (input_in first.body) list
told_begins before first between rest list (told_end b t) starts none later = not_begun
told_begins before first between rest list (told_on b t event behind l cut told) starts none later =
    let parts = no_starts_one between event behind none later in
    told_begins (before ++ event ∷ []) first (between ++ event ∷ []) behind list told starts parts.0 parts.1
told_begins before first between rest list (told_cut b t event behind here l cut told next) starts none later =
    let parts = no_starts_one between event behind none later in
    cut_begins (before ++ event ∷ []) first between event here l starts none told
    (told_goes (before ++ event ∷ []) [] behind l next refl parts.1)

-- from the first event on
told_first : (first : Event) (rest : List Event) (list : List Job) → Told [] [] (first ∷ rest) list → is_start first ≡ true
    → no_starts rest ≡ true → BeginsWith (workflow_kind first.body) (input_in first.body) list
told_first first rest list (told_on b t event later l cut told) starts none = told_begins (first ∷ []) first [] rest list told starts refl none
told_first first rest list (told_cut b t event later here l cut told next) starts none = absurd (no_cut first rest starts cut)

begun_once : (events : List Event) → StartsOnce events → (list : List Job) → Told [] [] events list
    → BeginsWith (workflow_of events) (input_of events) list
begun_once events once list told =
    subst (λ events. BeginsWith (workflow_of events) (input_of events) list) (sym once.are)
    (told_first once.first once.rest list (subst (λ events. Told [] [] events list) once.are told) once.starts once.later)

-- a table keeps its promises at jobs that begin with the only start
pub all_kept : (table : Definition) (promises : List Promise) → PromisesAll table promises → (list : List Job) → begins list ≡ true
    → KeptAllIn promises (course table (initial table) list)
all_kept table [] kept list begun = tt
all_kept table (promise ∷ rest) kept list begun = (kept.0 list begun, all_kept table rest kept.1 list begun)

module _ {S : Type 0} (program : Program S) (lawful : IsLawful program) (still : TimeGivesNothing program) where
  -- what the tasks of the rest of a history do
  record Done (before between rest : List Event) (current left : ReplayResult S) : Type 0 where
    issued : List Command
    has : HasIssued program before between rest current issued
    list : List Job
    told : Told before between rest list
    plain : without_markers issued ≡ given_by program current.state list
    state : left.state ≡ left_by program current.state list

  -- a completed task leaves the state of its activation
  closed_state : (history : List Event) (context : ActivationContext) (at : ℕ) (recorded : Option (List Event))
      (progress : Progress S) (left : ReplayResult S)
      → close_task history context at recorded progress ≡ Ok left → left.state ≡ progress.state
  closed_state history context at None progress left ok =
      let e : reached progress (reduced context progress.script.issued) ≡ left = cc in
      ap (λ (r : ReplayResult S). r.state) (sym e)
  closed_state history context at (Some events) progress left ok =
      by (mismatch history (reduced context progress.script.issued) events) ok
    where
      by : (found : Option Mismatch) → unless_mismatch at found (reached progress []) ≡ Ok left → left.state ≡ progress.state
      by None ok = let e : reached progress [] ≡ left = cc in ap (λ (r : ReplayResult S). r.state) (sym e)
      by (Some difference) ok = cc

  done_cut : (before between : List Event) (event : Event) (rest : List Event) (current now left : ReplayResult S)
      → is_cut event rest ≡ true → task program before between event rest current ≡ Ok now
      → Done (before ++ event ∷ []) [] rest now left → Done before between (event ∷ rest) current left
  done_cut before between event rest current now left cut ok later =
      by (activate program context given (begin_at current)) refl ok
    where
      context : ActivationContext
      context = context_at before between event rest

      given : List Job
      given = jobs_of (before ++ event ∷ []) between event

      by : (result : Result (Progress S) WorkflowFault) → activate program context given (begin_at current) ≡ result
          → task_after (before ++ event ∷ rest) context event.number result ≡ Ok now
          → Done before between (event ∷ rest) current left
      by (Err fault) is ended_so = cc
      by (Ok progress) is ended_so =
          let done : Activated program lawful still context given (begin_at current) progress = activate_does program lawful still context given (begin_at current) progress is in
          let left_is : now.state ≡ left_by program current.state done.list =
          closed_state (before ++ event ∷ rest) context event.number context.recorded progress now ended_so ∙ done.steps.state in record {
            issued = progress.script.issued ++ later.issued;
            has = ran before between event rest current now progress later.issued cut is ok later.has;
            list = done.list ++ later.list;
            told = told_cut before between event rest done.list later.list cut done.are later.told;
            plain =
                plain_append progress.script.issued later.issued
                ∙ ap (λ l. l ++ without_markers later.issued) done.steps.issued
                ∙ ap (λ l. given_by program current.state done.list ++ l) later.plain
                ∙ ap (λ state. given_by program current.state done.list ++ given_by program state later.list) left_is
                ∙ sym (given_append program current.state done.list later.list);
            state =
                later.state ∙ ap (λ state. left_by program state later.list) left_is
                ∙ sym (left_append program current.state done.list later.list);
          }

  done_after : (rest before between : List Event) (current left : ReplayResult S)
      → replay_after program before between rest current ≡ Ok left → Done before between rest current left
  done_after [] before between current left ok =
      let e : current ≡ left = cc in
      record {
        issued = [];
        has = ended before between current;
        list = [];
        told = told_end before between;
        plain = refl;
        state = ap (λ (r : ReplayResult S). r.state) (sym e);
      }
  done_after (event ∷ rest) before between current left ok =
      by (is_cut event rest) refl (task program before between event rest current) refl ok
      (λ between current ok. done_after rest (before ++ event ∷ []) between current left ok)
    where
      Later : Type 0
      Later = (between : List Event) (current : ReplayResult S)
          → replay_after program (before ++ event ∷ []) between rest current ≡ Ok left → Done (before ++ event ∷ []) between rest current left

      by : (cut : Bool) → is_cut event rest ≡ cut → (result : Result (ReplayResult S) Fault)
          → task program before between event rest current ≡ result
          → (if cut
          then and_then result (replay_after program (before ++ event ∷ []) [] rest)
          else replay_after program (before ++ event ∷ []) (between ++ event ∷ []) rest current) ≡ Ok left
          → Later → Done before between (event ∷ rest) current left
      by true is (Ok now) ran_so ok later = done_cut before between event rest current now left is ran_so (later [] now ok)
      by true is (Err fault) ran_so ok later = cc
      by false is result ran_so ok later =
          let behind : Done (before ++ event ∷ []) (between ++ event ∷ []) rest current left = later (between ++ event ∷ []) current ok in record {
            issued = behind.issued;
            has = passed before between event rest current behind.issued is behind.has;
            list = behind.list;
            told = told_on before between event rest behind.list is behind.told;
            plain = behind.plain;
            state = behind.state;
          }

  -- what replay of a history that it accepts does, from the first event on
  pub record Whole (events : List Event) (left : Replayed S) : Type 0 where
    pub issued : List Command
    pub has : HasIssued program [] [] events (start program (workflow_of events) 0) issued
    pub list : List Job
    pub told : Told [] [] events list
    pub starts : BeginsWith (workflow_of events) (input_of events) list
    pub plain : without_markers issued ≡ given_by program (program.initial (workflow_of events)) list
    pub state : left.state ≡ left_by program (program.initial (workflow_of events)) list

  pub whole : (events : List Event) (left : Replayed S) → replay program events 0 ≡ Ok left → Whole events left
  unfolding replay_tasks
  whole events left ok =
      by (history_fault events) refl (program.knows (workflow_of events))
      (replay_after program [] [] events (start program (workflow_of events) 0)) refl ok
    where
      by : (fault : Option (ℕ × PlaceFault)) → history_fault events ≡ fault → (known : Bool) (result : Result (ReplayResult S) Fault)
          → replay_after program [] [] events (start program (workflow_of events) 0) ≡ result
          → and_then (replay_placed fault (replay_known known result)) (λ left. Ok (with_machines (machines_of events) left)) ≡ Ok left
          → Whole events left
      by None placed true (Ok now) is ok =
          let e : with_machines (machines_of events) now ≡ left = cc in
          let done : Done [] [] events (start program (workflow_of events) 0) now = done_after events [] [] (start program (workflow_of events) 0) now is in
          record {
            issued = done.issued;
            has = done.has;
            list = done.list;
            told = done.told;
            starts = begun_once events (starts_once events placed) done.list done.told;
            plain = done.plain;
            state = ap (λ (r : Replayed S). r.state) (sym e) ∙ done.state;
          }
      by None placed true (Err fault) is ok = cc
      by None placed false result is ok = cc
      by (Some fault) placed known result is ok = cc

  -- if replay accepts a history, its events are in place
  in_place : (events : List Event) (left : Replayed S) → replay program events 0 ≡ Ok left → history_fault events ≡ None
  unfolding replay_tasks
  in_place events left ok =
      by (history_fault events) refl (program.knows (workflow_of events))
      (replay_after program [] [] events (start program (workflow_of events) 0)) ok
    where
      by : (fault : Option (ℕ × PlaceFault)) → history_fault events ≡ fault → (known : Bool) (result : Result (ReplayResult S) Fault)
          → and_then (replay_placed fault (replay_known known result)) (λ left. Ok (with_machines (machines_of events) left)) ≡ Ok left
          → history_fault events ≡ None
      by None placed known result ok = placed
      by (Some fault) placed known result ok = cc

  -- so its jobs begin with the start of its first event
  pub told_starts : (events : List Event) (left : Replayed S) → replay program events 0 ≡ Ok left
      → (list : List Job) → Told [] [] events list → BeginsWith (workflow_of events) (input_of events) list
  told_starts events left ok list told = begun_once events (starts_once events (in_place events left ok)) list told

module _ (table : Definition) (lawful : IsLawful (program table)) where
  -- the job that gives the time gets no commands
  time_gives : TimeGivesNothing (program table)
  time_gives state (jobs.Time time) is = ap (λ row. row_gives row state (jobs.Time time)) (no_row_at table.rows state time)
  time_gives state _ is = cc

  left_same : (state : RowsState) (list : List Job) → left_by (program table) state list ≡ after_all table state list
  left_same state [] = refl
  left_same state (job ∷ later) = left_same (after table state job) later

  -- the commands among the entries of a run are those that it gives to the jobs
  pub course_commands : (state : RowsState) (list : List Job)
      → commands_in (course table state list) ≡ given_by (program table) state list
  course_commands state [] = refl
  course_commands state (job ∷ later) =
      gave_first (gives table state job) (course table (after table state job) later)
      ∙ ap (λ l. gives table state job ++ l) (course_commands (after table state job) later)

  pub histories_are_courses : HistoriesAreCourses table
  histories_are_courses events left ok =
      let all : Whole (program table) lawful time_gives events left = whole (program table) lawful time_gives events left ok in (
        all.issued,
        all.has,
        all.list,
        all.told,
        begins_by (workflow_of events) (input_of events) all.list all.starts,
        all.plain ∙ sym (course_commands (initial table) all.list),
        all.state ∙ left_same (initial table) all.list,
      )

  -- a table keeps its promises at the jobs of a history
  pub histories_keep : (promises : List Promise) → PromisesAll table promises → HistoriesKeep table promises
  histories_keep promises kept events left ok list told =
      all_kept table promises kept list
      (begins_by (workflow_of events) (input_of events) list (told_starts (program table) lawful time_gives events left ok list told))
