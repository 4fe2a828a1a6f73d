-- The rows of the report of a service, and the failed tasks of its files, by the sources that its workers leave. That
-- each row is that of its file stands in Laws.
use Rattle.std.specs.Prelude.{ℕ, ◌+◌, List, [], ◌∷◌, ◌++◌, map, Option, Some, None, Result, Ok, Err}
use Rattle.wh_json.specs.declared.fault.ReadFault.{ReadFault}
use Rattle.wh_recorded.specs.Rounds.{Stage, failed_in, tally_of}
use Rattle.wh_recorded.specs.declared.failed_task.FailedTask.{FailedTask}
use Rattle.wh_service.specs.declared.assignment.AssignedFile.{AssignedFile}
use Rattle.wh_service.specs.declared.failures.FileFailure.{FileFailure}
use Rattle.wh_service.specs.declared.rows.FileCounts.{FileCounts}
use Rattle.wh_service.specs.declared.rows.FileRow.{FileRow}
use Rattle.wh_service.specs.Assignment.{source_at}

-- how many tasks of a file its source gave, and how they ended: none if it has none of its name
abbrev pub counts_from : Option (ℕ × ℕ × ℕ) → FileCounts
counts_from None = record { tasks = 0; completed = 0; failed = 0 }
counts_from (Some tally) = record { tasks = tally.0; completed = tally.1; failed = tally.2 }

abbrev pub outcome_from : Stage → List ℕ → Option ReadFault → Result FileCounts ReadFault
outcome_from source name None = Ok (counts_from (tally_of source name))
outcome_from source name (Some fault) = Err fault

-- the row of a file: why it cannot be read, or its counts in the source of its worker
abbrev pub row_from : Stage → AssignedFile → FileRow
row_from source file = record { name = file.name; outcome = outcome_from source file.name file.fault }

-- the rows of files in their order, where so many stand before them
abbrev pub rows_from : List Stage → ℕ → List AssignedFile → List FileRow
rows_from sources before [] = []
rows_from sources before (file ∷ rest) = row_from (source_at sources before) file ∷ rows_from sources (before + 1) rest

-- the failed tasks of a file under its name
abbrev pub failures_in : List ℕ → List FailedTask → List FileFailure
failures_in name tasks = map (λ task. record { name = name; task = task }) tasks

-- the failed tasks of a file, as the source of its worker has them: none if the file cannot be read
abbrev pub failures_by : Stage → List ℕ → Option ReadFault → List FileFailure
failures_by source name None = failures_in name (failed_in source name)
failures_by source name (Some fault) = []

abbrev pub failures_of : Stage → AssignedFile → List FileFailure
failures_of source file = failures_by source file.name file.fault

-- the failed tasks of files in their order, where so many stand before them
abbrev pub failures_from : List Stage → ℕ → List AssignedFile → List FileFailure
failures_from sources before [] = []
failures_from sources before (file ∷ rest) =
    failures_of (source_at sources before) file ++ failures_from sources (before + 1) rest
