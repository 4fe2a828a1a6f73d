-- The records of inputs, by those of the files that they were read as.
use Rattle.std.proofs.Common.{◌≡◌, ℕ, List, [], ◌∷◌, map, subst, sym}
use Rattle.std.specs.Prelude.{Vec, Option, Result, Ok, Err, IfOk, OnOk, MatchResult, Contains}
use Rattle.std.specs.Io.KnownBytes.{Appends}
use Rattle.std.specs.List.{AllZip}
use Rattle.std.specs.declared.alloc.Global.{Global}
use Rattle.wh_console.specs.declared.replay_options.ReplayOptions.{ReplayOptions}
use Rattle.wh_workflow.specs.Law.{Program}
use Rattle.wh_file_faults.specs.Faults.{File}
use Rattle.wh_file_faults.proofs.Collected.{as_they_are, each_value}
use Rattle.wh_report.specs.declared.records.Record.{Record}
use Rattle.wh_file_faults.specs.declared.command_fault.CommandFault.{CommandFault}
use Rattle.wh_report.specs.Reports.{records_status, report_of}
use Rattle.wh_report.specs.Records.{AreRecordsOf, IsRecordOf, IsRecordOfInput}

-- what is collected is the values of the inputs
pub collected : {A U E : Type 0} (P : A → Result U E → Type 0) (inputs : List A) (given : List (Result U E)) (answer : Result (Vec U Global) E)
    → AllZip P inputs given
    → MatchResult answer (λ all. (values : List U) × (given ≡ map Ok values) × (all.items ≡ values)) (λ e. Contains given (Err e))
    → IfOk answer (λ all. AllZip (λ input one. P input (Ok one)) inputs all.items)
collected {A} {U} {E} P inputs given (Ok all) zipped gives =
    let values = subst (λ (xs : List (Result U E)). AllZip P inputs xs) gives.1 zipped in
    subst (λ (l : List U). AllZip (λ input one. P input (Ok one)) inputs l) (sym gives.2) (each_value P inputs gives.0 values)
collected P inputs given (Err e) zipped gives = tt

-- the files of the inputs
files_of : {S A : Type 0} (options : ReplayOptions) (program : Program S) (Reads : A → File → Type 0) (inputs : List A) (records : List Record) → AllZip (IsRecordOfInput options program Reads) inputs records → (files : List File) × AllZip Reads inputs files × AllZip (IsRecordOf options program) files records
files_of options program Reads [] [] h = ([], tt, tt)
files_of options program Reads (input ∷ inputs) (own ∷ records) h = (let rest = files_of options program Reads inputs records h.1 in (h.0.file ∷ rest.0, (h.0.read, rest.1), (h.0.found, rest.2)))
files_of options program Reads [] (own ∷ records) h = absurd h
files_of options program Reads (input ∷ inputs) [] h = absurd h

pub records_of : {S A : Type 0} (options : ReplayOptions) (program : Program S) (Reads : A → File → Type 0) (inputs : List A) (records : List Record) → AllZip (IsRecordOfInput options program Reads) inputs records → AreRecordsOf options program Reads inputs records
records_of options program Reads inputs records h = (let own = files_of options program Reads inputs records h in record { files = own.0; read = own.1; found = own.2 })

-- files that were read as they are have their own records
pub records_of_files : {S : Type 0} (options : ReplayOptions) (program : Program S) (files : List File) (records : List Record) → AreRecordsOf options program (λ input file. file ≡ input) files records → AllZip (IsRecordOf options program) files records
records_of_files options program files records h = subst (λ l. AllZip (IsRecordOf options program) l records) (as_they_are files h.files h.read) h.found

-- the report of files, once it is written
pub files_reported : {S : Type 0} (options : ReplayOptions) (program : Program S) (files : List File) (records : List Record) (old new : Option (List ℕ)) (answer : Result ℕ CommandFault) → AllZip (IsRecordOf options program) files records
    → OnOk answer (Appends old new (report_of options records)) → IfOk answer (λ status. status ≡ records_status records)
    → IfOk answer (λ status. (found : List Record) × AllZip (IsRecordOf options program) files found × Appends old new (report_of options found) × (status ≡ records_status found))
files_reported options program files records old new (Ok status) theirs written ends = (records, theirs, written, ends)
files_reported options program files records old new (Err fault) theirs written ends = tt
