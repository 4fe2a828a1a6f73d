-- A path that breaks a promise: jobs in words, and what each is given.
use Rattle.std.specs.Prelude.{◌≡◌, ◌<◌, ℕ, ◌+◌, true, List, [], ◌∷◌, length, map, Option, Some, None, IsTrue, codes, if◌then◌else◌}
use Rattle.wh_workflow.specs.declared.job.Job.{Job}
use Rattle.wh_rows.specs.declared.row.RowsState.{RowsState}
use Rattle.wh_rows.specs.Tables.{Row, Definition}
use Rattle.wh_rows.specs.Rows.{fits, seen_by, gives, after, initial}
use Rattle.wh_rows.specs.Courses.{course, begins}
use Rattle.wh_rows.specs.Promises.{Promise, KeptIn, Promises}
use Rattle.wh_author_tools.specs.JobTexts.{job_of}
use Rattle.wh_author_tools.specs.CommandTexts.{commands_text}
use Rattle.wh_row_rules.specs.declared.promises.WayStep.{WayStep}
use Rattle.wh_row_rules.specs.declared.promises.Breach.{Breach}
use Rattle.wh_row_rules.specs.declared.promises.PromiseVerdict.{PromiseVerdict}
use Rattle.wh_row_rules.specs.declared.promises.PromiseVerdict.TheVariants as verdicts

-- the commands that a job is given, as scenarios write them
abbrev pub text_given : Definition → RowsState → Job → List ℕ
text_given table state job = commands_text (gives table state job)

-- those of each job, one after another
abbrev pub texts_given : Definition → RowsState → List Job → List (List ℕ)
texts_given table state [] = []
texts_given table state (job ∷ later) = text_given table state job ∷ texts_given table (after table state job) later

-- the number of the first row that fits, where the first of these has that number
abbrev pub row_from : ℕ → List Row → RowsState → Job → Option ℕ
row_from number [] state job = None
row_from number (row ∷ rest) state job =
    if fits row state job then Some number else row_from (number + 1) rest state job

-- the number of the row that counts at a job, counted from 1; None if no row fits
abbrev pub row_taken : Definition → RowsState → Job → Option ℕ
row_taken table state job = row_from 1 table.rows (seen_by table state job) job

-- that of each job, one after another
abbrev pub rows_taken : Definition → RowsState → List Job → List (Option ℕ)
rows_taken table state [] = []
rows_taken table state (job ∷ later) = row_taken table state job ∷ rows_taken table (after table state job) later

-- the job that words are in a scenario of a run of the type `Table`
abbrev pub job_read : List ℕ → Option Job
job_read words = job_of (codes "Table") words

-- a path of these jobs: scenarios read its words as them; they begin with one start; each is given what the path says,
-- by the row that it says; and what happens in a run at them does not keep the promise
pub record IsWayOf (table : Definition) (promise : Promise) (way : List WayStep) (jobs : List Job) : Type 0 where
  pub read : map (λ step. job_read step.job) way ≡ map (λ job. Some job) jobs
  pub begins : IsTrue (begins jobs)
  pub given : map (λ step. step.gives) way ≡ texts_given table (initial table) jobs
  pub rows : map (λ step. step.row) way ≡ rows_taken table (initial table) jobs
  pub breaks : KeptIn promise (course table (initial table) jobs) → ⊥

-- a path that breaks the promise
abbrev pub IsWay : Definition → Promise → List WayStep → Type 0
IsWay table promise way = (jobs : List Job) × IsWayOf table promise way jobs

-- no path of fewer jobs than this breaks the promise
abbrev pub IsKeptBefore : ℕ → Definition → Promise → Type 0
IsKeptBefore many table promise =
    (list : List Job) → IsTrue (begins list) → length list < many → KeptIn promise (course table (initial table) list)

-- a path that breaks the promise, and is a shortest one if that is said
abbrev pub IsBreach : Definition → Promise → Breach → Type 0
IsBreach table promise breach =
    IsWay table promise breach.way.items
    × (breach.is_shortest ≡ true → IsKeptBefore (length breach.way.items) table promise)

-- a verdict is right: what is kept is kept whatever jobs come, and a path breaks the promise
abbrev pub IsRight : Definition → Promise → PromiseVerdict → Type 0
IsRight table promise verdicts.Kept = Promises table promise
IsRight table promise (verdicts.Broken breach) = IsBreach table promise breach
IsRight table promise (verdicts.NotDecided _) = Unit {0}
