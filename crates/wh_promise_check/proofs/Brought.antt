-- A run with a table in its input gives what a run of the table does, with the table added for a new run.
use Rattle.std.proofs.Common.{◌≡◌, ℕ, true, not, List, [], ◌∷◌, ◌++◌, map, None, Ok, ℤ, refl, ap, ap₂, sym, subst, ◌∙◌}
use Rattle.std.proofs.lemmas.Bool.{and_parts}
use Rattle.std.proofs.lemmas.List.{map-append}
use Rattle.wh_events.specs.declared.event.Payload.{Payload}
use Rattle.wh_workflow.specs.declared.job.Job.{Job}
use Rattle.wh_workflow.specs.declared.job.Job.TheVariants as jobs
use Rattle.wh_workflow.specs.Law.{Program}
use Rattle.wh_replay.specs.Replays.{workflow_of}
use Rattle.wh_rows.specs.Rows as rows
use Rattle.wh_rows.specs.Tables.{Definition}
use Rattle.wh_rows.specs.declared.row.RowsState.{RowsState}
use Rattle.wh_rows.specs.Rules.{table_fault}
use Rattle.wh_rows.specs.Lawful.{rows_lawful}
use Rattle.wh_row_rules.specs.declared.owned.OwnedTable.{OwnedTable}
use Rattle.wh_row_rules.specs.Broken.{definition}
use Rattle.wh_table.specs.declared.state.TableState.{TableState}
use Rattle.wh_table.specs.Carrying.{with_table, held}
use Rattle.wh_table.specs.Program.{front, tail, table_in, program, program_lawful}
use Rattle.wh_table.specs.Laws as laws
use Rattle.wh_rows.specs.Courses.{goes_on}
use Rattle.wh_rows.proofs.Sound.{no_row_at}
use Rattle.wh_promise_check.specs.Kept.{input_of}
use Rattle.wh_promise_check.proofs.Stepped.{given_by, TimeGivesNothing}
use Rattle.wh_promise_check.proofs.Started.{BeginsWith, not_begun, with_start, with_time, begins_by}
use Rattle.wh_promise_check.proofs.Kept.{Whole, whole, told_starts, course_commands, all_kept}
use Rattle.wh_promise_check.specs.BroughtTables.{as_rows_see, BroughtHistoriesAreCourses, BroughtTablesKeep}

-- no row is for the job that gives the time
time_gives_none : (table : Definition) (state : RowsState) (time : ℤ) → rows.gives table state (jobs.Time time) ≡ []
time_gives_none table state time = ap (λ row. rows.row_gives row state (jobs.Time time)) (no_row_at table.rows state time)

time_leaves : (table : Definition) (state : RowsState) (time : ℤ) → rows.after table state (jobs.Time time) ≡ state
time_leaves table state time =
    ap (λ row. rows.after_found row table.bounds state (jobs.Time time)) (no_row_at table.rows state time)

-- so that job gets no commands
time_is_still : TimeGivesNothing program
time_is_still state (jobs.Time time) is =
    ap (held state.kind state.payload) (time_gives_none (definition state.table) state.run time)
time_is_still state _ is = cc

-- all of these lists, one after another
abbrev flat : {A : Type 0} → List (List A) → List A
flat [] = []
flat (list ∷ rest) = list ++ flat rest

flat_map : {A B : Type 0} → (f : A → B) (lists : List (List A)) → flat (map (map f) lists) ≡ map f (flat lists)
flat_map f [] = refl
flat_map f (list ∷ rest) = ap (λ l. map f list ++ l) (flat_map f rest) ∙ sym (map-append f list (flat rest))

flat_given : {S : Type 0} → (code : Program S) (state : S) (list : List Job)
    → flat (laws.given_to_each code state list) ≡ given_by code state list
flat_given code state [] = refl
flat_given code state (job ∷ later) = ap (λ l. code.gives state job ++ l) (flat_given code (code.after state job) later)

see_same : (job : Job) → not (rows.is_start job) ≡ true → as_rows_see job ≡ job
see_same (jobs.Start workflow input) is = cc
see_same _ is = refl

-- rows see jobs that start nothing unchanged
see_later : (list : List Job) → goes_on list ≡ true → map as_rows_see list ≡ list
see_later [] on = refl
see_later (job ∷ later) on =
    let parts : (not (rows.is_start job) ≡ true) × (goes_on later ≡ true) = and_parts (not (rows.is_start job)) (goes_on later) on in
    ap₂ (λ (one : Job) (rest : List Job). one ∷ rest) (see_same job parts.0) (see_later later parts.1)

-- they see the same start, without the table
see_begins : (workflow : List ℕ) (input : List Payload) (list : List Job) → BeginsWith workflow input list
    → BeginsWith workflow (tail input) (map as_rows_see list)
see_begins workflow input list not_begun = not_begun
see_begins workflow input list (with_start later on) =
    with_start (map as_rows_see later) (subst (λ l. goes_on l ≡ true) (sym (see_later later on)) on)
see_begins workflow input list (with_time time later next) =
    with_time time (map as_rows_see later) (see_begins workflow input later next)

module _ (workflow : List ℕ) (input : List Payload) (table : OwnedTable) (is : table_in input ≡ Ok table) where
  -- the run gives what a run of the table does
  given_as_table : (state : TableState) (list : List Job) → BeginsWith workflow input list
      → given_by program state list
      ≡ map (with_table workflow (front input))
      (given_by (rows.program (definition table)) (rows.initial (definition table)) (map as_rows_see list))
  given_as_table state list not_begun = refl
  given_as_table state list (with_start later on) =
      sym (flat_given program state (jobs.Start workflow input ∷ later))
      ∙ ap flat (laws.follows_its_table state workflow input later table is on)
      ∙ flat_map (with_table workflow (front input))
      (laws.given_to_each (rows.program (definition table)) (rows.initial (definition table)) (jobs.Start workflow (tail input) ∷ later))
      ∙ ap (map (with_table workflow (front input)))
      (flat_given (rows.program (definition table)) (rows.initial (definition table)) (jobs.Start workflow (tail input) ∷ later)
      ∙ ap (λ l. given_by (rows.program (definition table)) (rows.initial (definition table)) (jobs.Start workflow (tail input) ∷ l))
      (sym (see_later later on)))
  given_as_table state list (with_time time later next) =
      ap (λ l. l ++ given_by program (program.after state (jobs.Time time)) later) (time_is_still state (jobs.Time time) refl)
      ∙ given_as_table (program.after state (jobs.Time time)) later next
      ∙ ap (map (with_table workflow (front input)))
      (ap (λ run. given_by (rows.program (definition table)) run (map as_rows_see later))
      (sym (time_leaves (definition table) (rows.initial (definition table)) time))
      ∙ ap (λ l. l ++ given_by (rows.program (definition table))
      (rows.after (definition table) (rows.initial (definition table)) (jobs.Time time)) (map as_rows_see later))
      (sym (time_gives_none (definition table) (rows.initial (definition table)) time)))

-- a table in an input breaks no rule
breaks_none : (input : List Payload) (table : OwnedTable) → table_in input ≡ Ok table → table_fault (definition table) ≡ None
breaks_none [] table is = cc
breaks_none (first ∷ others) table is = laws.read_breaks_none first.content table is

pub brought_courses : BroughtHistoriesAreCourses
brought_courses events left ok table is =
    let all : Whole program program_lawful time_is_still events left = whole program program_lawful time_is_still events left ok in (
      all.issued,
      all.has,
      all.list,
      all.told,
      begins_by (workflow_of events) (input_of events) all.list all.starts,
      all.plain
          ∙ given_as_table (workflow_of events) (input_of events) table is (program.initial (workflow_of events)) all.list all.starts
          ∙ ap (map (with_table (workflow_of events) (front (input_of events))))
          (sym (course_commands (definition table) (rows_lawful (definition table) (breaks_none (input_of events) table is))
          (rows.initial (definition table)) (map as_rows_see all.list))),
    )

pub brought_keep : BroughtTablesKeep
brought_keep events left ok table is promises kept list told =
    all_kept (definition table) promises kept (map as_rows_see list)
    (begins_by (workflow_of events) (tail (input_of events)) (map as_rows_see list)
    (see_begins (workflow_of events) (input_of events) list
    (told_starts program program_lawful time_is_still events left ok list told)))
