-- Which histories the workers are assigned: they take turns, file by file. That each history goes to one worker, and to
-- no other, stands in Laws.
use Rattle.std.specs.Prelude.{ℕ, ◌+◌, ◌%◌, List, [], ◌∷◌, ◌++◌, length, map, get_or, Option, Some, None, Result, Ok, Err, String, Vec, if◌then◌else◌, eqb}
use Rattle.std.specs.declared.alloc.Global.{Global}
use Rattle.wh_events.specs.declared.event.Event.{Event}
use Rattle.wh_json.specs.declared.fault.ReadFault.{ReadFault}
use Rattle.wh_recorded.specs.Rounds.{Scripted, Stage, scripted}
use Rattle.wh_service.specs.declared.assignment.AssignedFile.{AssignedFile}
use Rattle.wh_service.specs.Readings.{Reading}

-- the fault, if there is one
abbrev pub fault_of : {A : Type 0} → Result A ReadFault → Option ReadFault
fault_of (Ok x) = None
fault_of (Err fault) = Some fault

-- a file by its name, and why it cannot be read
abbrev pub assigned_as : Reading → AssignedFile
assigned_as reading = record { name = reading.0; fault = fault_of reading.1 }

-- the history of a file, under the index and the name of the file, if it can be read
abbrev pub read_as : ℕ → List ℕ → Result (List Event) ReadFault → List Scripted
read_as index name (Ok events) = record { index = index; name = name; events = events } ∷ []
read_as index name (Err fault) = []

abbrev pub history_of : ℕ → Reading → List Scripted
history_of index reading = read_as index reading.0 reading.1

-- what one of so many workers is assigned of files, where so many stand before them: the workers take turns
abbrev pub hand_from : (count worker before : ℕ) → List Reading → List Scripted
hand_from count worker before [] = []
hand_from count worker before (reading ∷ rest) =
    (if eqb (before % count) worker then history_of before reading else []) ++ hand_from count worker (before + 1) rest

-- what a worker is assigned of all files
abbrev pub assigned_to : (count worker : ℕ) → List Reading → List Scripted
assigned_to count worker readings = hand_from count worker 0 readings

-- a source without histories
abbrev pub no_source : Stage
no_source = record { histories = []; round = 0; next = 0; answers = [] }

-- the source of the worker that a file goes to, where so many stand before it: the workers take turns
abbrev pub source_at : List Stage → ℕ → Stage
source_at sources before = get_or sources (before % length sources) no_source

-- a list as contracts see it
abbrev pub histories_seen : Vec (ℕ × String Global × Vec Event Global) Global → List Scripted
histories_seen list = map scripted list.items
