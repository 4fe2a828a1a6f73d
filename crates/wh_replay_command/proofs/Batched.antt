-- Files that are replayed batch by batch.
use Rattle.std.proofs.Common.{◌≡◌, ◌∙◌, ℕ, List, [], ◌∷◌, ◌++◌, length, sym, ap, subst}
use Rattle.std.specs.Prelude.{not, IfErr, IfOk, Result, Ok, Err, Vec}
use Rattle.std.specs.declared.alloc.Global.{Global}
use Rattle.std.specs.List.{AllZip}
use Rattle.std.proofs.lemmas.List.{length-map, map-append}
use Rattle.std.proofs.lemmas.Slice.Zip.{AllZip-long}
use Rattle.wh_console.specs.Consoles.{ConsoleView, Reported}
use Rattle.wh_replay_command.specs.Batches.{AddsRecords, faulty_of}
use Rattle.wh_file_faults.specs.Faults.{File}
use Rattle.wh_console.specs.declared.files.InputFault.{InputFault}
use Rattle.wh_diagnostics.proofs.Batched.{stopped_whole, told_in_all as all_told}
use Rattle.wh_diagnostics.specs.Batches.{reports_after, reported_batches, reports_of, HasStopped, HasStoppedWhole}
use Rattle.wh_diagnostics.specs.ProgressLines.{end_text}
use Rattle.wh_diagnostics.specs.declared.progress_modes.ProgressMode.{ProgressMode}
use Rattle.wh_report.specs.Records.{AreRecordsOf, IsRecordOf}
use Rattle.wh_report.specs.declared.records.Record.{Record}
use Rattle.wh_tester.specs.Report.{is_good}
use Rattle.wh_console.specs.declared.replay_options.ReplayOptions.{ReplayOptions}
use Rattle.wh_workflow.specs.Law.{Program}

-- two lists and what is theirs, one after the other
both_zip : {A B : Type 0} (R : A → B → Type 0) (xs zs : List A) (ys ws : List B) → AllZip R xs ys → AllZip R zs ws → AllZip R (xs ++ zs) (ys ++ ws)
both_zip R [] zs [] ws a b = b
both_zip R [] zs (y ∷ ys) ws a b = absurd a
both_zip R (x ∷ xs) zs [] ws a b = absurd a
both_zip R (x ∷ xs) zs (y ∷ ys) ws a b = (a.0, both_zip R xs zs ys ws a.1 b)

-- the records of inputs, and then of others
records_both : {S T : Type 0} (options : ReplayOptions) (program : Program S) (Reads : T → File → Type 0) (first second : List T) (ones others : List Record)
    → AreRecordsOf options program Reads first ones → AreRecordsOf options program Reads second others → AreRecordsOf options program Reads (first ++ second) (ones ++ others)
records_both options program Reads first second ones others a b = record {
  files = a.files ++ b.files;
  read = both_zip Reads first second a.files b.files a.read b.read;
  found = both_zip (IsRecordOf options program) a.files b.files ones others a.found b.found;
}

-- each input has one record
pub as_many : {S T : Type 0} (options : ReplayOptions) (program : Program S) (Reads : T → File → Type 0) (inputs : List T) (records : List Record)
    → AreRecordsOf options program Reads inputs records → length (faulty_of records) ≡ length inputs
as_many options program Reads inputs records are =
    length-map records (λ own. not (is_good own.line.verdict))
    ∙ AllZip-long (IsRecordOf options program) are.files records are.found
    ∙ AllZip-long Reads inputs are.files are.read

-- the records of a batch stand after those before it
pub adds_after : {S T : Type 0} (options : ReplayOptions) (program : Program S) (Reads : T → File → Type 0) (front batch : List T) (records all : List Record)
    → AddsRecords options program Reads batch records all → AreRecordsOf options program Reads front records
    → AreRecordsOf options program Reads (front ++ batch) all
adds_after options program Reads front batch records all adds are =
    subst (λ l. AreRecordsOf options program Reads (front ++ batch) l) (sym adds.added)
    (records_both options program Reads front batch records adds.own are adds.found)

-- and so do their marks
pub marks_after : {S T : Type 0} (options : ReplayOptions) (program : Program S) (Reads : T → File → Type 0) (batch : List T) (records all : List Record)
    (adds : AddsRecords options program Reads batch records all) → faulty_of records ++ faulty_of adds.own ≡ faulty_of all
marks_after options program Reads batch records all adds =
    sym (map-append (λ own. not (is_good own.line.verdict)) records adds.own) ∙ ap faulty_of (sym adds.added)

-- there are no records of no inputs
pub no_records : {S T : Type 0} (options : ReplayOptions) (program : Program S) (Reads : T → File → Type 0) → AreRecordsOf options program Reads [] []
no_records options program Reads = record { files = []; read = tt; found = tt }

-- all that is reported of files was reported of those that were replayed
pub told_in_all : {S T : Type 0} (options : ReplayOptions) (program : Program S) (Reads : T → File → Type 0) (mode : ProgressMode) (inputs : List T) (lines : ℕ)
    (a b c : ConsoleView) (answer : Result (Vec Record Global) InputFault)
    → lines ≡ reported_batches mode (length inputs)
    → IfOk answer (λ records. AreRecordsOf options program Reads inputs records.items)
    → IfOk answer (λ records. Reported a b (reports_after mode (length inputs) (faulty_of records.items) (reported_batches mode (length inputs))))
    → Reported b c (end_text mode lines)
    → IfOk answer (λ records. Reported a c (reports_of mode (faulty_of records.items)))
told_in_all options program Reads mode inputs lines a b c (Ok records) same found told ended =
    all_told (AreRecordsOf options program Reads) faulty_of mode inputs lines records.items a b c (as_many options program Reads) same found told ended
told_in_all options program Reads mode inputs lines a b c (Err fault) same found told ended = tt

-- or the replay stopped
pub stopped_in_all : {S T : Type 0} (options : ReplayOptions) (program : Program S) (Reads : T → File → Type 0) (mode : ProgressMode) (inputs : List T) (lines : ℕ)
    (a b c : ConsoleView) (answer : Result (Vec Record Global) InputFault)
    → lines ≡ reported_batches mode (length inputs)
    → IfErr answer (λ _. HasStopped (AreRecordsOf options program Reads) faulty_of mode inputs a b)
    → Reported b c (end_text mode lines)
    → IfErr answer (λ _. HasStoppedWhole (AreRecordsOf options program Reads) faulty_of mode inputs a c)
stopped_in_all options program Reads mode inputs lines a b c (Ok records) same stopped ended = tt
stopped_in_all options program Reads mode inputs lines a b c (Err fault) same stopped ended =
    stopped_whole (AreRecordsOf options program Reads) faulty_of mode inputs lines a b c same stopped ended
