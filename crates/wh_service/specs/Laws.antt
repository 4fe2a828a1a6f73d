-- Which worker each history goes to, and whose row is whose.
use Rattle.std.specs.Prelude.{◌≡◌, ℕ, ◌<◌, ◌%◌, List, length, slice_get, Some, Ok, Contains}
use Rattle.wh_events.specs.declared.event.Event.{Event}
use Rattle.wh_recorded.specs.Rounds.{Scripted, Stage}
use Rattle.wh_service.specs.declared.assignment.AssignedFile.{AssignedFile}
use Rattle.wh_service.specs.declared.failures.FileFailure.{FileFailure}
use Rattle.wh_service.specs.Assignment.{assigned_to, source_at}
use Rattle.wh_service.specs.Readings.{Reading}
use Rattle.wh_service.specs.Rows.{failures_from, failures_of, row_from, rows_from}

-- a history goes to the worker whose turn its file is: of so many workers, the rest of the file's place by that number
abbrev pub EachGoesToItsWorker : Type 0
EachGoesToItsWorker =
    (count place : ℕ) (readings : List Reading) (name : List ℕ) (events : List Event)
    → slice_get readings place ≡ Some (name, Ok events)
    → Contains (assigned_to count (place % count) readings) (record { index = place; name = name; events = events })

-- a worker is assigned nothing else: each of its histories is that of the file at its index, whose turn is the
-- worker's; so a history goes to no other worker
abbrev pub NothingElseIsAssigned : Type 0
NothingElseIsAssigned =
    (count worker : ℕ) (readings : List Reading) (history : Scripted)
    → Contains (assigned_to count worker readings) history
    → (history.index % count ≡ worker) × (slice_get readings history.index ≡ Some (history.name, Ok history.events))

-- a worker has its histories in the order of their files; so it has none twice
abbrev pub AreAssignedInOrder : Type 0
AreAssignedInOrder =
    (count worker first second : ℕ) (readings : List Reading) (one other : Scripted)
    → first < second
    → slice_get (assigned_to count worker readings) first ≡ Some one
    → slice_get (assigned_to count worker readings) second ≡ Some other
    → one.index < other.index

-- the row of a file stands at its place, by the source of the worker whose turn it is
abbrev pub EachRowIsOfItsFile : Type 0
EachRowIsOfItsFile =
    (sources : List Stage) (files : List AssignedFile) (place : ℕ) (file : AssignedFile)
    → slice_get files place ≡ Some file
    → slice_get (rows_from sources 0 files) place ≡ Some (row_from (source_at sources place) file)

-- there are as many rows as files
abbrev pub AsManyRowsAsFiles : Type 0
AsManyRowsAsFiles =
    (sources : List Stage) (files : List AssignedFile) → length (rows_from sources 0 files) ≡ length files

-- a failed task is reported where the source of the worker whose turn its file is has it
abbrev pub EachFailureIsReported : Type 0
EachFailureIsReported =
    (sources : List Stage) (files : List AssignedFile) (place : ℕ) (file : AssignedFile) (failure : FileFailure)
    → slice_get files place ≡ Some file
    → Contains (failures_of (source_at sources place) file) failure
    → Contains (failures_from sources 0 files) failure

-- and no other is
abbrev pub NoOtherFailureIsReported : Type 0
NoOtherFailureIsReported =
    (sources : List Stage) (files : List AssignedFile) (failure : FileFailure)
    → Contains (failures_from sources 0 files) failure
    → (place : ℕ) × (file : AssignedFile) × (slice_get files place ≡ Some file)
    × Contains (failures_of (source_at sources place) file) failure
