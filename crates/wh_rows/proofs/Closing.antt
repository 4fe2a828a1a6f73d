-- Where a table closes a run, it gives nothing more.
use Rattle.std.specs.Prelude.{ℕ, ◌≡◌, Bool, true, false, not, ◌&&◌, ◌||◌, List, [], ◌∷◌, ◌++◌, Option, Some, None, bytes_eq, codes, refl, if◌then◌else◌}
use Rattle.std.proofs.Common.{ap, sym, subst, ◌∙◌}
use Rattle.wh_events.specs.declared.event.Payload.{Payload}
use Rattle.wh_workflow.specs.declared.command.Command.{Command}
use Rattle.wh_workflow.specs.declared.job.Job.{Job}
use Rattle.wh_workflow.specs.declared.job.Job.TheVariants as jobs
use Rattle.wh_rows.specs.declared.row.CommandTemplate.TheVariants as templates
use Rattle.wh_rows.specs.declared.row.RowsState.{RowsState}
use Rattle.wh_rows.specs.Naming.{name_by}
use Rattle.wh_rows.specs.Tables.{CommandTemplate, Row, Definition}
use Rattle.wh_rows.specs.Rows.{started, seen_by, closes, some_closes, command_of, commands_of, row_gives, row_for, is_for_job, all_hold, after_found, after}
use Rattle.wh_rows.specs.Rules.{asks, ends_well, table_fault}
use Rattle.wh_rows.specs.Lawful.{first_of, second_of, row_ends_well, of_row}
use Rattle.wh_rows.specs.Laws.{is_closing, one_closes, after_all, ClosesForGood, LastCommandCloses}

-- a command closes the run exactly if its template does
pub closes_alike : (one : CommandTemplate) (state : RowsState) (job : Job) → is_closing (command_of one state job) ≡ closes one
closes_alike templates.Cancel state job = refl
closes_alike _ state job = refl

pub close_alike : (gives : List CommandTemplate) (state : RowsState) (job : Job)
    → one_closes (commands_of gives state job) ≡ some_closes gives
unfolding commands_of
close_alike [] state job = refl
close_alike (one ∷ rest) state job = rw (closes_alike one state job, close_alike rest state job) refl

passed : (closed test second third : Bool) (row : Row) (other : Option Row) → closed ≡ true
    → (if ((not closed && test) && second) && third then Some row else other) ≡ other
passed true test second third row other is = refl
passed false test second third row other is = cc

-- no row fits once the run is closed
no_row : (rows : List Row) (state : RowsState) (job : Job) → state.closed ≡ true → row_for rows state job ≡ None
unfolding row_for
no_row [] state job closed = refl
no_row (row ∷ rest) state job closed =
    passed state.closed (bytes_eq row.state (codes "any") || bytes_eq row.state state.at) (is_for_job row.job state job)
    (all_hold row.conditions state.counts) row (row_for rest state job) closed
    ∙ no_row rest state job closed

-- a start leaves it closed
pub start_leaves : (name_of : List Payload → List ℕ) (state : RowsState) (job : Job)
    → (started name_of state job).closed ≡ state.closed
start_leaves name_of state (jobs.Start workflow input) = refl
start_leaves name_of state _ = refl

-- no row counts in a closed run
pub none_counts : (table : Definition) (state : RowsState) (job : Job) → state.closed ≡ true
    → row_for table.rows (seen_by table state job) job ≡ None
none_counts table state job closed =
    no_row table.rows (seen_by table state job) job (start_leaves (name_by table.name) state job ∙ closed)

-- it stays closed
stays : (table : Definition) (state : RowsState) (job : Job) → state.closed ≡ true → (after table state job).closed ≡ true
stays table state job closed =
    let now : RowsState = seen_by table state job in
    subst (λ row. (after_found row table.bounds now job).closed ≡ true) (sym (none_counts table state job closed))
    (start_leaves (name_by table.name) state job ∙ closed)

stay : (table : Definition) (state : RowsState) (later : List Job) → state.closed ≡ true
    → (after_all table state later).closed ≡ true
stay table state [] closed = closed
stay table state (job ∷ later) closed = stay table (after table state job) later (stays table state job closed)

-- a step that closes the run leaves it closed
ends : (table : Definition) (row : Option Row) (state : RowsState) (job : Job) → one_closes (row_gives row state job) ≡ true
    → (after_found row table.bounds state job).closed ≡ true
ends table None state job closes = cc
ends table (Some row) state job closes = sym (close_alike row.gives state job) ∙ closes

pub closes_for_good : (table : Definition) → ClosesForGood table
closes_for_good table state job later last closing =
    let now : RowsState = seen_by table state job in
    let left : RowsState = after_all table (after table state job) later in
    ap (λ row. row_gives row (seen_by table left last) last)
    (none_counts table left last
    (stay table (after table state job) later (ends table (row_for table.rows now job) now job closing)))

-- a command that closes the run is the last one of a row that ends well
last_closes : (gives : List CommandTemplate) (state : RowsState) (job : Job) (earlier : List Command) (command : Command)
    (later : List Command) → ends_well gives ≡ true → commands_of gives state job ≡ earlier ++ command ∷ later
    → is_closing command ≡ true → later ≡ []
unfolding commands_of
last_closes [] state job [] command later well split closing = cc
last_closes [] state job (one ∷ earlier) command later well split closing = cc
last_closes (one ∷ []) state job [] command later well split closing = cc
last_closes (one ∷ []) state job (first ∷ []) command later well split closing = cc
last_closes (one ∷ []) state job (first ∷ second ∷ earlier) command later well split closing = cc
last_closes (one ∷ next ∷ rest) state job [] command later well split closing =
    let goes_on : not (closes one) ≡ true = first_of (not (closes one)) (ends_well (next ∷ rest))
    (second_of (not (asks one)) (not (closes one) && ends_well (next ∷ rest)) well) in
    let alike : is_closing (command_of one state job) ≡ closes one = closes_alike one state job in cc
last_closes (one ∷ next ∷ rest) state job (first ∷ earlier) command later well split closing =
    let rest_well : ends_well (next ∷ rest) ≡ true = second_of (not (closes one)) (ends_well (next ∷ rest))
    (second_of (not (asks one)) (not (closes one) && ends_well (next ∷ rest)) well) in
    let tail : commands_of (next ∷ rest) state job ≡ earlier ++ command ∷ later = cc in
    last_closes (next ∷ rest) state job earlier command later rest_well tail closing

nothing_split : (earlier : List Command) (command : Command) (later : List Command) → [] ≡ earlier ++ command ∷ later
    → later ≡ []
nothing_split [] command later split = cc
nothing_split (one ∷ earlier) command later split = cc

pub last_command_closes : (table : Definition) → table_fault table ≡ None → LastCommandCloses table
last_command_closes table faultless state job earlier command later split closing =
    let now : RowsState = seen_by table state job in
    of_row table now job (λ row. row_gives row now job ≡ earlier ++ command ∷ later → later ≡ []) faultless
    (λ split. nothing_split earlier command later split)
    (λ before row none split. last_closes row.gives now job earlier command later (row_ends_well table before row none) split closing)
    split
