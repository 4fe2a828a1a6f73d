-- The first row that fits decides, and only a row changes the state.
use Rattle.std.specs.Prelude.{◌≡◌, ℕ, Bool, true, false, not, ◌&&◌, ◌||◌, List, [], ◌∷◌, ◌++◌, Option, Some, None, bytes_eq, codes, refl, if◌then◌else◌}
use Rattle.std.proofs.Common.{ap, subst, ◌∙◌}
use Rattle.std.proofs.lemmas.Slice.Eq.{bytes_eq-Decides}
use Rattle.wh_workflow.specs.declared.job.Job.{Job}
use Rattle.wh_workflow.specs.declared.job.Job.TheVariants as jobs
use Rattle.wh_events.specs.declared.event.Payload.{Payload}
use Rattle.wh_rows.specs.declared.row.RowEffect.{RowEffect}
use Rattle.wh_rows.specs.declared.row.RowEffect.TheVariants as effects
use Rattle.wh_rows.specs.declared.row.Counters.{Counters}
use Rattle.wh_rows.specs.declared.row.RowsState.{RowsState}
use Rattle.wh_rows.specs.Naming.{name_by}
use Rattle.wh_rows.specs.Tables.{Row, Definition}
use Rattle.wh_rows.specs.Rows.{fits, row_for, row_gives, after_found, after_one, after_effects, after_row, started, seen_by, after}
use Rattle.wh_rows.specs.Lawful.{first_of, second_of}
use Rattle.wh_rows.specs.Laws.{none_fits, FirstRowCounts, NoRowChangesNothing, some_leads, StateChangesByRow}

-- of an `if` whose test fails, the other side
other_side : (test : Bool) (one other : Option Row) → not test ≡ true → (if test then one else other) ≡ other
other_side true one other fails = cc
other_side false one other fails = refl

-- a row that fits, after rows that do not, is the first one that fits
first_found : (earlier : List Row) (row : Row) (later : List Row) (state : RowsState) (job : Job)
    → none_fits earlier state job ≡ true → fits row state job ≡ true
    → row_for (earlier ++ row ∷ later) state job ≡ Some row
unfolding row_for
first_found [] row later state job none fit = rw fit refl
first_found (one ∷ rest) row later state job none fit =
    other_side (fits one state job) (Some one) (row_for (rest ++ row ∷ later) state job)
    (first_of (not (fits one state job)) (none_fits rest state job) none)
    ∙ first_found rest row later state job (second_of (not (fits one state job)) (none_fits rest state job) none) fit

-- if none fits, none is found
none_found : (rows : List Row) (state : RowsState) (job : Job) → none_fits rows state job ≡ true
    → row_for rows state job ≡ None
unfolding row_for
none_found [] state job none = refl
none_found (one ∷ rest) state job none =
    other_side (fits one state job) (Some one) (row_for rest state job)
    (first_of (not (fits one state job)) (none_fits rest state job) none)
    ∙ none_found rest state job (second_of (not (fits one state job)) (none_fits rest state job) none)

pub first_row_counts : (table : Definition) → FirstRowCounts table
first_row_counts table earlier row later state job split none fit =
    let now : RowsState = seen_by table state job in
    let found : row_for table.rows now job ≡ Some row =
    ap (λ rows. row_for rows now job) split ∙ first_found earlier row later now job none fit in
    (ap (λ one. row_gives one now job) found, ap (λ one. after_found one table.bounds now job) found)

pub no_row_changes_nothing : (table : Definition) → NoRowChangesNothing table
no_row_changes_nothing table state job none =
    let now : RowsState = seen_by table state job in
    let found : row_for table.rows now job ≡ None = none_found table.rows now job none in
    (ap (λ one. row_gives one now job) found, ap (λ one. after_found one table.bounds now job) found)

-- effects leave the state's name
one_stays : (one : RowEffect) (bounds : Counters) (state : RowsState) (job : Job) → (after_one one bounds state job).at ≡ state.at
one_stays (effects.Up counter) bounds state job = refl
one_stays (effects.Zero counter) bounds state job = refl
one_stays effects.Keep bounds state job = refl

all_stay : (all : List RowEffect) (bounds : Counters) (state : RowsState) (job : Job)
    → (after_effects all bounds state job).at ≡ state.at
unfolding after_effects
all_stay [] bounds state job = refl
all_stay (one ∷ rest) bounds state job =
    all_stay rest bounds (after_one one bounds state job) job ∙ one_stays one bounds state job

-- as does a start
start_stays : (name_of : List Payload → List ℕ) (state : RowsState) (job : Job) → (started name_of state job).at ≡ state.at
start_stays name_of state (jobs.Start workflow input) = refl
start_stays name_of state _ = refl

-- a text is itself
eq_itself : (text : List ℕ) → bytes_eq text text ≡ true
eq_itself text = (bytes_eq-Decides text text).1 refl

-- a row that leads to a state leaves that one, or the run in its own
row_leads : (row : Row) (bounds : Counters) (state : RowsState) (job : Job)
    → (bytes_eq (after_row row bounds state job).at state.at || bytes_eq row.next (after_row row bounds state job).at) ≡ true
row_leads row bounds state job =
    by_test (bytes_eq row.next (codes "same")) (after_effects row.effects bounds state job).at
    (all_stay row.effects bounds state job)
  where
    by_test : (test : Bool) (left : List ℕ) → left ≡ state.at
        → (bytes_eq (if test then left else row.next) state.at || bytes_eq row.next (if test then left else row.next)) ≡ true
    by_test true left is = rw (is, eq_itself state.at) refl
    by_test false left is = rw (eq_itself row.next) (by_side (bytes_eq row.next state.at))
      where
        by_side : (side : Bool) → (side || true) ≡ true
        by_side true = refl
        by_side false = refl

leads_first : (stays leads later : Bool) → (stays || leads) ≡ true → (stays || (leads || later)) ≡ true
leads_first true leads later is = refl
leads_first false true later is = refl
leads_first false false later is = cc

-- of rows, the one that counts leads to the state that they leave
first_leads : (test : Bool) (row : Row) (rest : List Row) (bounds : Counters) (state : RowsState) (job : Job)
    → (bytes_eq (after_found (row_for rest state job) bounds state job).at state.at
    || some_leads rest state job (after_found (row_for rest state job) bounds state job).at) ≡ true
    → (bytes_eq (after_found (if test then Some row else row_for rest state job) bounds state job).at state.at
    || ((test && bytes_eq row.next (after_found (if test then Some row else row_for rest state job) bounds state job).at)
    || some_leads rest state job (after_found (if test then Some row else row_for rest state job) bounds state job).at)) ≡ true
first_leads true row rest bounds state job later = leads_first (bytes_eq (after_row row bounds state job).at state.at)
    (bytes_eq row.next (after_row row bounds state job).at)
    (some_leads rest state job (after_row row bounds state job).at) (row_leads row bounds state job)
first_leads false row rest bounds state job later = later

rows_lead : (rows : List Row) (bounds : Counters) (state : RowsState) (job : Job)
    → (bytes_eq (after_found (row_for rows state job) bounds state job).at state.at
    || some_leads rows state job (after_found (row_for rows state job) bounds state job).at) ≡ true
unfolding row_for
rows_lead [] bounds state job = rw (eq_itself state.at) refl
rows_lead (row ∷ rest) bounds state job =
    first_leads (fits row state job) row rest bounds state job (rows_lead rest bounds state job)

pub state_changes_by_row : (table : Definition) → StateChangesByRow table
state_changes_by_row table state job =
    let now : RowsState = seen_by table state job in
    subst (λ at. (bytes_eq (after table state job).at at || some_leads table.rows now job (after table state job).at) ≡ true)
    (start_stays (name_by table.name) state job)
    (rows_lead table.rows table.bounds now job)
