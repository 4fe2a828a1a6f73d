-- The row that a run takes at its start.
use Rattle.std.proofs.Common.{◌≡◌, ℕ, ◌+◌, ◌&&◌, List, [], ◌∷◌, Some, Result, Ok, Err, refl, ap, ap₂, subst, sym, ◌∙◌}
use Rattle.std.specs.Prelude.{if◌then◌else◌}
use Rattle.wh_events.specs.declared.event.Payload.{Payload}
use Rattle.wh_workflow.specs.declared.job.Job.{Job}
use Rattle.wh_workflow.specs.declared.job.Job.TheVariants as jobs
use Rattle.wh_rows.specs.declared.row.RowsState.{RowsState}
use Rattle.wh_rows.specs.declared.row.JobPattern.TheVariants as patterns
use Rattle.wh_rows.specs.Tables.{JobPattern, Row}
use Rattle.wh_rows.specs.Naming.{name_by}
use Rattle.wh_rows.specs.Rows.{fits, is_for_state, is_for_job, all_hold, started, initial}
use Rattle.wh_row_rules.specs.declared.owned.OwnedTable.{OwnedTable}
use Rattle.wh_row_rules.specs.Broken.{definition}
use Rattle.wh_table_text.specs.declared.fault.TableFault.{TableFault}
use Rattle.wh_table.specs.declared.state.TableState.{TableState}
use Rattle.wh_table.specs.Program.{opened, front, tail, table_in, after}
use Rattle.wh_file_page.specs.Ways.{number_from, number_for, turn_to, turn_at_start, turn_at}

-- whatever a start brings, the same patterns are for it
for_start : (one : JobPattern) (state other : RowsState) (kind : List ℕ) (input rest : List Payload)
    → is_for_job one state (jobs.Start kind input) ≡ is_for_job one other (jobs.Start kind rest)
for_start patterns.Start state other kind input rest = refl
for_start (patterns.Signal _) state other kind input rest = refl
for_start patterns.CancelRequested state other kind input rest = refl
for_start (patterns.Done _) state other kind input rest = refl
for_start (patterns.NotDone _) state other kind input rest = refl
for_start (patterns.Fired _) state other kind input rest = refl
for_start (patterns.ChildStarted _) state other kind input rest = refl
for_start (patterns.ChildDone _) state other kind input rest = refl
for_start (patterns.ChildCanceled _) state other kind input rest = refl
for_start (patterns.ChildNotDone _) state other kind input rest = refl
for_start (patterns.Version _ _) state other kind input rest = refl
for_start (patterns.AnyVersion _) state other kind input rest = refl

module _ (name_of : List Payload → List ℕ) (state : RowsState) (kind : List ℕ) (input rest : List Payload) where
  fits_start : (row : Row)
      → fits row state (jobs.Start kind input) ≡ fits row (started name_of state (jobs.Start kind rest)) (jobs.Start kind rest)
  fits_start row =
      ap (λ wanted. is_for_state row.state state && wanted && all_hold row.conditions state.counts)
      (for_start row.job state (started name_of state (jobs.Start kind rest)) kind input rest)

  number_start : (number : ℕ) (rows : List Row)
      → number_from number rows state (jobs.Start kind input)
      ≡ number_from number rows (started name_of state (jobs.Start kind rest)) (jobs.Start kind rest)
  number_start number [] = refl
  number_start number (row ∷ rows) =
      ap₂ (λ first later. if first then Some number else later) (fits_start row) (number_start (number + 1) rows)

-- the row that is taken at the start, by the table that the start leaves
start_turn : (kind : List ℕ) (payload input rest : List Payload) (table : Result OwnedTable TableFault)
    → let left = (opened kind payload table (jobs.Start kind rest)).table in
    turn_to left.first (number_for left.rows (initial (definition left)) (jobs.Start kind input))
    ≡ turn_at_start table (jobs.Start kind rest)
start_turn kind payload input rest (Ok table) = ap (turn_to table.first) (number_start (name_by table.name) (initial (definition table)) kind input rest 1 table.rows)
start_turn kind payload input rest (Err fault) = refl

-- the row that is taken at a job that is the start
pub start_taken : (state left : TableState) (job : Job) (kind : List ℕ) (input : List Payload)
    → job ≡ jobs.Start kind input → left ≡ after state job
    → turn_to left.table.first (number_for left.table.rows (initial (definition left.table)) job) ≡ turn_at state job
start_taken state left job kind input starts leaves =
    subst (λ given. left ≡ after state given
    → turn_to left.table.first (number_for left.table.rows (initial (definition left.table)) given) ≡ turn_at state given)
    (sym starts)
    (λ same.
    ap (λ (now : TableState). turn_to now.table.first (number_for now.table.rows (initial (definition now.table)) (jobs.Start kind input))) same
    ∙ start_turn kind (front input) input (tail input) (table_in input))
    leaves
