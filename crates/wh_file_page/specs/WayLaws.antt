-- What holds of each path.
use Rattle.std.specs.Prelude.{◌≡◌, ◌-◌, List, slice_get}
use Rattle.std.specs.Option.{option_and_then}
use Rattle.wh_workflow.specs.declared.job.Job.{Job}
use Rattle.wh_rows.specs.declared.row.RowsState.{RowsState}
use Rattle.wh_rows.specs.Tables.{Row}
use Rattle.wh_rows.specs.Rows.{row_for}
use Rattle.wh_file_page.specs.Ways.{number_for}

-- the row whose number is found is the one that a step follows
abbrev pub TakesWhatIsFollowed : Type 0
TakesWhatIsFollowed =
    (rows : List Row) (state : RowsState) (job : Job)
    → option_and_then (λ number. slice_get rows (number - 1)) (number_for rows state job) ≡ row_for rows state job
