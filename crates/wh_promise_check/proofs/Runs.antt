-- A run that a host holds keeps the promises of its table.
use Rattle.std.proofs.Common.{◌≡◌, Bool, true, false, List, refl, Result, Ok, Err}
use Rattle.std.specs.Prelude.{IsOkAnd, if◌then◌else◌}
use Rattle.wh_replay.specs.declared.fault.Fault.{Fault}
use Rattle.wh_replay.specs.declared.fault.Fault.TheVariants.{NotATask}
use Rattle.wh_replay.specs.Replays.{Replayed, replay, ends_in_task}
use Rattle.wh_replay.specs.Runs.{Shows}
use Rattle.wh_rows.specs.declared.row.RowsState.{RowsState}
use Rattle.wh_rows.specs.Tables.{Definition}
use Rattle.wh_rows.specs.Rows.{initial, program}
use Rattle.wh_rows.specs.Courses.{course}
use Rattle.wh_rows.specs.Promises.{Promise, KeptAllIn}
use Rattle.wh_promise_check.specs.Kept.{HistoriesKeep, RunsKeep}

pub runs_keep : (table : Definition) (promises : List Promise) → HistoriesKeep table promises → RunsKeep table promises
runs_keep table promises keep history is list told =
    by (ends_in_task history.events) (replay (program table) history.events 0) refl is.replays
  where
    by : (ends : Bool) (replayed : Result (Replayed RowsState) Fault) → replay (program table) history.events 0 ≡ replayed
        → IsOkAnd (if ends then replayed else Err NotATask) (Shows history)
        → KeptAllIn promises (course table (initial table) list)
    by true (Ok left) same shown = keep history.events left same list told
    by true (Err fault) same shown = absurd shown
    by false replayed same shown = absurd shown
