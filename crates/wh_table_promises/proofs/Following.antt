-- What happens in a run as it is followed.
use Rattle.std.proofs.Common.{◌≡◌, ℕ, ◌+◌, ◌<◌, ◌≤◌, List, [], ◌∷◌, ◌++◌, length, get_or, drop, map, refl, ap, sym, ◌∙◌, append_assoc, arith, Option}
use Rattle.std.proofs.lemmas.List.{map-append}
use Rattle.wh_workflow.specs.declared.job.Job.{Job}
use Rattle.wh_workflow.specs.declared.command.Command.{Command}
use Rattle.wh_rows.specs.declared.row.RowsState.{RowsState}
use Rattle.wh_rows.specs.Tables.{Definition}
use Rattle.wh_rows.specs.Rows.{gives, after, initial, seen_by}
use Rattle.wh_rows.specs.Courses.{course, gave}
use Rattle.wh_rows.specs.Watches.{Turn, Standing, watched}
use Rattle.wh_rows.specs.Promises.{Promise, KeptIn, watch_of}
use Rattle.wh_rows.proofs.Turns.{watched_append}
use Rattle.wh_rows.proofs.Spent.{kept_spends}
use Rattle.wh_table_promises.specs.Ways.{text_given, texts_given, row_taken, rows_taken, job_read}
use Rattle.wh_row_rules.specs.declared.promises.WayStep.{WayStep}
use Rattle.wh_table_promises.specs.Private.Told.{told_by, given_by, through, spends}
use Rattle.wh_table_promises.proofs.Leading.{front}

-- a command turns the watch, and then those behind it
pub given_on : (turns : List Turn) (now : Standing) (commands : List Command) (i : ℕ) (command : Command)
    → i < length commands → command ≡ get_or commands i command
    → watched turns (given_by turns command now) (gave (drop (i + 1) commands)) ≡ watched turns now (gave (drop i commands))
given_on turns now commands i command within is =
    ap (λ list. watched turns now (gave list)) (sym (front commands i command within is))

-- a job turns the watch, and then those behind it
pub course_on : (table : Definition) (turns : List Turn) (state : RowsState) (now : Standing) (jobs : List Job) (i : ℕ) (job : Job)
    → i < length jobs → job ≡ get_or jobs i job
    → watched turns (through table turns state job now) (course table (after table state job) (drop (i + 1) jobs))
    ≡ watched turns now (course table state (drop i jobs))
course_on table turns state now jobs i job within is =
    sym (watched_append turns (told_by turns (seen_by table state job) job now) (gave (gives table state job))
    (course table (after table state job) (drop (i + 1) jobs)))
    ∙ ap (λ list. watched turns now (course table state list)) (sym (front jobs i job within is))

-- the texts of a job, and then those of the jobs behind it
pub texts_on : (table : Definition) (state : RowsState) (texts : List (List ℕ)) (jobs : List Job) (i : ℕ) (job : Job)
    → i < length jobs → job ≡ get_or jobs i job
    → (texts ++ text_given table state job ∷ []) ++ texts_given table (after table state job) (drop (i + 1) jobs)
    ≡ texts ++ texts_given table state (drop i jobs)
texts_on table state texts jobs i job within is =
    append_assoc texts (text_given table state job ∷ []) (texts_given table (after table state job) (drop (i + 1) jobs))
    ∙ ap (λ list. texts ++ texts_given table state list) (sym (front jobs i job within is))

-- the rows of a job, and then those of the jobs behind it
pub rows_on : (table : Definition) (state : RowsState) (rows : List (Option ℕ)) (jobs : List Job) (i : ℕ) (job : Job)
    → i < length jobs → job ≡ get_or jobs i job
    → (rows ++ row_taken table state job ∷ []) ++ rows_taken table (after table state job) (drop (i + 1) jobs)
    ≡ rows ++ rows_taken table state (drop i jobs)
rows_on table state rows jobs i job within is =
    append_assoc rows (row_taken table state job ∷ []) (rows_taken table (after table state job) (drop (i + 1) jobs))
    ∙ ap (λ list. rows ++ rows_taken table state list) (sym (front jobs i job within is))

-- what is said of a list with one more
pub one_more : {A B : Type 0} → (f : A → B) (held new : List A) (one : A) → new ≡ held ++ one ∷ []
    → map f new ≡ map f held ++ f one ∷ []
one_more f held new one is = ap (map f) is ∙ map-append f held (one ∷ [])

-- a run in which the watch spends more than the budget does not keep the promise
pub spends_breaks : (table : Definition) (promise : Promise) (jobs : List Job)
    → (watch_of promise).budget < spends table (watch_of promise).turns jobs
    → KeptIn promise (course table (initial table) jobs) → ⊥
spends_breaks table promise jobs more kept =
    let few : spends table (watch_of promise).turns jobs ≤ (watch_of promise).budget = kept_spends promise (course table (initial table) jobs) kept in
    omega (arith, more, few)

-- the jobs of steps are those of their words
pub read_steps : (way : List WayStep) → map (λ step. job_read step.job) way ≡ map job_read (map (λ step. step.job) way)
read_steps [] = refl
read_steps (step ∷ rest) = ap (λ list. job_read step.job ∷ list) (read_steps rest)
