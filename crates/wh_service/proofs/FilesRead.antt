-- Files that were read.
use Rattle.std.proofs.Common.{◌≡◌, ◌∙◌, ◌+◌, inl, List, [], ◌∷◌, ◌++◌, length, map, refl, ap, ap₂, subst, sym}
use Rattle.std.specs.Prelude.{◌≢◌, ◌⊎◌, Bool, cond, count_by, IfErr, IfOk, MatchResult, Option, Result, Ok, Err, Vec}
use Rattle.std.specs.List.{AllZip}
use Rattle.std.proofs.lemmas.Grind.{flat_map-append}
use Rattle.std.proofs.lemmas.List.{length-map, map-append}
use Rattle.std.proofs.lemmas.List.Folds.{fold-map}
use Rattle.std.proofs.lemmas.Slice.Zip.{AllZip-long}
use Rattle.std.specs.declared.alloc.Global.{Global}
use Rattle.wh_events.specs.declared.event.Event.{Event}
use Rattle.wh_json.specs.Outcome.{Gives}
use Rattle.wh_json.specs.declared.fault.ReadFault.{ReadFault}
use Rattle.wh_json.specs.declared.fault.ReadFault.TheVariants as faults
use Rattle.wh_service.specs.declared.readings.ReadFile.{ReadFile}
use Rattle.wh_service.specs.declared.readings.ReadFiles.{ReadFiles}
use Rattle.wh_file_faults.specs.Faults.{File}
use Rattle.wh_service.specs.Readings.{reading_of, faulty_of, is_unread, plain, reading, readings_of, AddsRead, AreRead, HasRead, IsReading, Reading}
use Rattle.wh_service.specs.declared.file_faults.FileFault.{FileFault}
use Rattle.wh_service.specs.Faults.{AreFaultsOf, IsReportedOf, reported_of}
use Rattle.wh_service.specs.Made.{AreMadeOf, IsMadeOf}
use Rattle.wh_console.specs.declared.files.InputFault.{InputFault}
use Rattle.wh_console.specs.declared.files.InputFault.TheVariants.{OutOfMemory as InputMemory}
use Rattle.wh_workflow.specs.Law.{Program}

-- where room was found, what was read is the history or its fault
pub plain_is : (outcome : Result (Vec Event Global) ReadFault) (read : Result (List Event) ReadFault) → outcome ≢ Err faults.OutOfMemory → Gives (λ events. events.items) outcome read → plain outcome ≡ read
plain_is (Ok events) read room gives = sym gives
plain_is (Err fault) read room gives = sym (gives (λ e. room (ap Err e)))

-- what was made of a file, and is reported of it, was made of the input that was read as it
pub made_of_file : {S T : Type 0} (program : Program S) (Reads : T → File → Type 0) (Refuses : T → InputFault → Type 0) (input : T) (file : File) (answer : Result (ReadFile × Option FileFault) InputFault)
    → Reads input file
    → IfOk answer (λ made. IsReading file made.0)
    → IfOk answer (λ made. IsReportedOf program file made.1)
    → IfErr answer (λ fault. fault ≡ InputMemory)
    → MatchResult answer (IsMadeOf program Reads IsReading input) (λ fault. (fault ≡ InputMemory) ⊎ Refuses input fault)
made_of_file program Reads Refuses input file (Ok made) read reading own memory = record { file = file; read = read; gives = reading; told = own }
made_of_file program Reads Refuses input file (Err fault) read reading own memory = inl memory

-- so it is with all files
pub readings_are : (files : List File) (read : List ReadFile) → AllZip IsReading files read → map reading read ≡ map reading_of files
readings_are [] [] zip = refl
readings_are (f ∷ fs) (r ∷ rs) zip = rw (zip.0, readings_are fs rs zip.1) refl
readings_are [] (r ∷ rs) zip = absurd zip
readings_are (f ∷ fs) [] zip = absurd zip

-- and with all inputs
pub are_read : {S T : Type 0} (Reads : T → File → Type 0) (program : Program S) (inputs : List T) (read : List ReadFile) (faults : List FileFault) → AreMadeOf program Reads IsReading inputs read faults → AreRead Reads program inputs read faults
are_read Reads program inputs read faults made = record {
  files = made.files;
  from = made.read;
  readings = readings_are made.files read made.gives;
  reported = made.told;
}

-- how many files have a mark
pub count_of_marks : (files : List ReadFile) → count_by (λ own. own) (faulty_of (map reading files)) ≡ count_by (λ file. is_unread (reading file)) files
count_of_marks files =
    let unread : Reading → Bool = is_unread in
    fold-map (λ n own. n + cond own 1 0) unread 0 (map reading files) ∙ fold-map (λ n own. n + cond (is_unread own) 1 0) reading 0 files

-- two lists and what is theirs, one after the other
zip_both : {A B : Type 0} (R : A → B → Type 0) (xs zs : List A) (ys ws : List B) → AllZip R xs ys → AllZip R zs ws → AllZip R (xs ++ zs) (ys ++ ws)
zip_both R [] zs [] ws a b = b
zip_both R [] zs (y ∷ ys) ws a b = absurd a
zip_both R (x ∷ xs) zs [] ws a b = absurd a
zip_both R (x ∷ xs) zs (y ∷ ys) ws a b = (a.0, zip_both R xs zs ys ws a.1 b)

-- the faults of files, and then of others
faults_both : {S : Type 0} (program : Program S) (files later : List File) (ones others : List FileFault) → AreFaultsOf program files ones → AreFaultsOf program later others → AreFaultsOf program (files ++ later) (ones ++ others)
faults_both program files later ones others a b = record {
  told = a.told ++ b.told;
  each = zip_both (IsReportedOf program) files later a.told b.told a.each b.each;
  all = ap₂ (λ x y. x ++ y) a.all b.all ∙ sym (flat_map-append reported_of a.told b.told);
}

-- what was read of inputs, and then of others
pub read_both : {S T : Type 0} (Reads : T → File → Type 0) (program : Program S) (inputs later : List T) (one all : ReadFiles)
    → HasRead Reads program inputs one → AddsRead Reads program later one all → HasRead Reads program (inputs ++ later) all
read_both Reads program inputs later one all a adds =
    let b = adds.read in
    record {
      files = a.files ++ b.files;
      from = zip_both Reads inputs later a.files b.files a.from b.from;
      readings = adds.readings ∙ ap₂ (λ x y. x ++ y) a.readings b.readings ∙ sym (map-append reading_of a.files b.files);
      reported = subst (λ l. AreFaultsOf program (a.files ++ b.files) l) (sym adds.faults)
          (faults_both program a.files b.files one.faults.items adds.own.faults.items a.reported b.reported);
    }

-- and their marks
pub marks_both : {S T : Type 0} (Reads : T → File → Type 0) (program : Program S) (later : List T) (one all : ReadFiles)
    (adds : AddsRead Reads program later one all) → faulty_of (readings_of one) ++ faulty_of (readings_of adds.own) ≡ faulty_of (readings_of all)
marks_both Reads program later one all adds = sym (map-append is_unread (readings_of one) (readings_of adds.own)) ∙ ap faulty_of (sym adds.readings)

-- nothing was read of no inputs
pub read_none : {S T : Type 0} (Reads : T → File → Type 0) (program : Program S) (none : ReadFiles)
    → none.files.items ≡ [] → none.faults.items ≡ [] → HasRead Reads program [] none
read_none Reads program none files faults = record {
  files = [];
  from = tt;
  readings = ap (map reading) files;
  reported = record { told = []; each = tt; all = faults };
}

-- each input has a reading
pub read_each : {S T : Type 0} (Reads : T → File → Type 0) (program : Program S) (inputs : List T) (read : ReadFiles)
    → HasRead Reads program inputs read → length (faulty_of (readings_of read)) ≡ length inputs
read_each Reads program inputs read h =
    length-map (readings_of read) is_unread
    ∙ ap length h.readings
    ∙ length-map h.files reading_of
    ∙ AllZip-long Reads inputs h.files h.from
