-- Counters stay within their bounds.
use Rattle.std.specs.Prelude.{◌≡◌, ℕ, suc, ◌≤◌, Bool, true, false, List, [], ◌∷◌, Option, Some, None, ltb, refl, if◌then◌else◌}
use Rattle.std.proofs.Common.{sym, subst, arith}
use Rattle.std.proofs.Math.Nat.{le_refl}
use Rattle.std.proofs.lemmas.Bool.{ltb-true}
use Rattle.wh_events.specs.declared.event.Payload.{Payload}
use Rattle.wh_workflow.specs.declared.job.Job.{Job}
use Rattle.wh_workflow.specs.declared.job.Job.TheVariants as jobs
use Rattle.wh_rows.specs.declared.row.Counter.{Counter}
use Rattle.wh_rows.specs.declared.row.Counter.TheVariants as counters
use Rattle.wh_rows.specs.declared.row.RowEffect.{RowEffect}
use Rattle.wh_rows.specs.declared.row.RowEffect.TheVariants as effects
use Rattle.wh_rows.specs.declared.row.Counters.{Counters}
use Rattle.wh_rows.specs.declared.row.RowsState.{RowsState}
use Rattle.wh_rows.specs.Naming.{name_by}
use Rattle.wh_rows.specs.Tables.{Row, Definition}
use Rattle.wh_rows.specs.Rows.{count_of, with_count, raised, after_one, after_effects, after_found, row_for, started, seen_by, after, initial}
use Rattle.wh_rows.specs.Laws.{IsWithin, WithinBounds, after_all}

-- one more is within the bound
raised_within : (count bound : ℕ) → raised count bound ≤ bound
raised_within count bound = by_test (ltb count bound) refl
  where
    by_test : (test : Bool) → ltb count bound ≡ test → (if test then suc count else bound) ≤ bound
    by_test true is = ltb-true count bound is
    by_test false is = le_refl bound

zero_least : (n : ℕ) → 0 ≤ n
zero_least n = omega arith

with_within : (counter : Counter) (bounds counts : Counters) (value : ℕ) → IsWithin bounds counts
    → value ≤ count_of counter bounds → IsWithin bounds (with_count counter counts value)
with_within counters.A bounds counts value within fits = (fits, within.1, within.2, within.3)
with_within counters.B bounds counts value within fits = (within.0, fits, within.2, within.3)
with_within counters.C bounds counts value within fits = (within.0, within.1, fits, within.3)
with_within counters.D bounds counts value within fits = (within.0, within.1, within.2, fits)

pub one_within : (one : RowEffect) (bounds : Counters) (state : RowsState) (job : Job) → IsWithin bounds state.counts
    → IsWithin bounds (after_one one bounds state job).counts
one_within (effects.Up counter) bounds state job within =
    with_within counter bounds state.counts _ within (raised_within (count_of counter state.counts) (count_of counter bounds))
one_within (effects.Zero counter) bounds state job within = with_within counter bounds state.counts 0 within (zero_least (count_of counter bounds))
one_within effects.Keep bounds state job within = within

all_within : (all : List RowEffect) (bounds : Counters) (state : RowsState) (job : Job) → IsWithin bounds state.counts
    → IsWithin bounds (after_effects all bounds state job).counts
unfolding after_effects
all_within [] bounds state job within = within
all_within (one ∷ rest) bounds state job within =
    all_within rest bounds (after_one one bounds state job) job (one_within one bounds state job within)

found_within : (row : Option Row) (bounds : Counters) (state : RowsState) (job : Job) → IsWithin bounds state.counts
    → IsWithin bounds (after_found row bounds state job).counts
found_within None bounds state job within = within
found_within (Some row) bounds state job within = all_within row.effects bounds state job within

-- a start leaves the counters
pub start_counts : (name_of : List Payload → List ℕ) (state : RowsState) (job : Job)
    → (started name_of state job).counts ≡ state.counts
start_counts name_of state (jobs.Start workflow input) = refl
start_counts name_of state _ = refl

pub job_within : (table : Definition) (state : RowsState) (job : Job) → IsWithin table.bounds state.counts
    → IsWithin table.bounds (after table state job).counts
job_within table state job within =
    let now : RowsState = seen_by table state job in
    found_within (row_for table.rows now job) table.bounds now job
    (subst (IsWithin table.bounds) (sym (start_counts (name_by table.name) state job)) within)

jobs_within : (table : Definition) (state : RowsState) (jobs : List Job) → IsWithin table.bounds state.counts
    → IsWithin table.bounds (after_all table state jobs).counts
jobs_within table state [] within = within
jobs_within table state (job ∷ later) within =
    jobs_within table (after table state job) later (job_within table state job within)

pub within_bounds : (table : Definition) → WithinBounds table
within_bounds table jobs = jobs_within table (initial table) jobs (zero_least table.bounds.a, zero_least table.bounds.b, zero_least table.bounds.c, zero_least table.bounds.d)
