-- What is read of files.
use Rattle.std.specs.Prelude.{◌≡◌, ◌++◌, ℕ, List, map, Bool, Result, Ok, Err, is_err, string_bytes, Vec}
use Rattle.std.specs.List.{AllZip}
use Rattle.std.specs.declared.alloc.Global.{Global}
use Rattle.wh_events.specs.declared.event.Event.{Event}
use Rattle.wh_file_faults.specs.Faults.{File}
use Rattle.wh_json.specs.declared.fault.ReadFault.{ReadFault}
use Rattle.wh_json.specs.Events.{history}
use Rattle.wh_workflow.specs.Law.{Program}
use Rattle.wh_service.specs.Faults.{AreFaultsOf}
use Rattle.wh_service.specs.declared.file_faults.FileFault.{FileFault}
use Rattle.wh_service.specs.declared.readings.ReadFile.{ReadFile}
use Rattle.wh_service.specs.declared.readings.ReadFiles.{ReadFiles}

-- a file as it is read: its name, and its history or why it cannot be read
abbrev pub Reading : Type 0
Reading = List ℕ × Result (List Event) ReadFault

abbrev pub reading_of : File → Reading
reading_of file = (string_bytes file.0, history file.1.items)

-- a history as a list, or the fault
abbrev pub plain : Result (Vec Event Global) ReadFault → Result (List Event) ReadFault
plain (Ok events) = Ok events.items
plain (Err fault) = Err fault

-- a file that was read as contracts see it
abbrev pub reading : ReadFile → Reading
reading file = (string_bytes file.name, plain file.outcome)

-- what was read of a file is its reading
abbrev pub IsReading : File → ReadFile → Type 0
IsReading file read = reading read ≡ reading_of file

-- what was read of inputs: each as a file, in their order, the readings of these files, and what is reported of them
pub record AreRead {S T : Type 0} (Reads : T → File → Type 0) (program : Program S) (inputs : List T)
    (read : List ReadFile) (faults : List FileFault) : Type 0 where
  pub files : List File
  pub from : AllZip Reads inputs files
  pub readings : map reading read ≡ map reading_of files
  pub reported : AreFaultsOf program files faults

-- no history can be read of a file
abbrev pub is_unread : Reading → Bool
is_unread reading = is_err reading.1

-- which files have a fault, as progress counts them: those of which no history can be read
abbrev pub faulty_of : List Reading → List Bool
faulty_of readings = map is_unread readings

-- the readings of files that were read, in their order
abbrev pub readings_of : ReadFiles → List Reading
readings_of read = map reading read.files.items

-- this was read of inputs, in their order
abbrev pub HasRead : {S T : Type 0} → (Reads : T → File → Type 0) → Program S → List T → ReadFiles → Type 0
HasRead Reads program inputs read = AreRead Reads program inputs read.files.items read.faults.items

-- what was read of inputs stands after what was read before
pub record AddsRead {S T : Type 0} (Reads : T → File → Type 0) (program : Program S) (inputs : List T)
    (old new : ReadFiles) : Type 0 where
  pub own : ReadFiles
  pub read : HasRead Reads program inputs own
  pub readings : readings_of new ≡ readings_of old ++ readings_of own
  pub faults : new.faults.items ≡ old.faults.items ++ own.faults.items
