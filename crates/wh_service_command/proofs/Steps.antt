-- What a service wrote and reported, one step after the other.
use Rattle.std.proofs.Common.{◌≡◌, ◌∙◌, inr, ℕ, List, length, map, refl, sym, subst}
use Rattle.std.specs.Prelude.{Bool, false, Option, Result, Ok, Err, IfErr, IfOk}
use Rattle.std.specs.Io.KnownBytes.{Keeps}
use Rattle.std.specs.Result.{IsErrAnd}
use Rattle.wh_console.proofs.Printing.{quiet_twice, written_kept}
use Rattle.wh_console.specs.Consoles.{ConsoleView, IsQuiet, Reported}
use Rattle.wh_diagnostics.specs.Failures.{IsReadFailure}
use Rattle.wh_diagnostics.specs.Printing.{status_with}
use Rattle.wh_diagnostics.specs.declared.failures.Failure.{Failure}
use Rattle.wh_diagnostics.specs.declared.failures.Failure.TheVariants.{Output}
use Rattle.wh_file_faults.specs.declared.command_fault.CommandFault.{CommandFault}
use Rattle.wh_service.specs.Faults.{AreFaultsOf}
use Rattle.wh_console.specs.Inputs.{IsReadFrom}
use Rattle.wh_console.specs.declared.files.Input.{Input}
use Rattle.wh_slots.specs.declared.sizes.Config.{Config}
use Rattle.wh_diagnostics.specs.Listings.{IsListed, lacks_files}
use Rattle.wh_diagnostics.specs.Readings.{Gives, IsReadAs}
use Rattle.wh_diagnostics.proofs.Batched.{stopped_after_all, stopped_whole, told_in_all, HasAMarkEach}
use Rattle.wh_diagnostics.proofs.Unreported.{lacks_after_stop, lacks_for_output}
use Rattle.wh_diagnostics.specs.Batches.{reported_batches, reports_after, reports_of, HasStopped, LacksReport}
use Rattle.wh_diagnostics.specs.ProgressLines.{end_text}
use Rattle.wh_diagnostics.specs.ProgressModes.{mode_by}
use Rattle.wh_diagnostics.specs.declared.progress_modes.ProgressMode.{ProgressMode}
use Rattle.wh_service.proofs.FilesRead.{read_each}
use Rattle.wh_service.proofs.Workers.{by_closure, end_by, end_of_served}
use Rattle.wh_service.specs.Readings.{faulty_of, reading_of, readings_of, HasRead}
use Rattle.wh_service.specs.Services.{HostsBy, IsEndOf, IsHosted, IsServiceEnd}
use Rattle.wh_service.specs.declared.readings.ReadFiles.{ReadFiles}
use Rattle.wh_service.specs.declared.service.PendingReport.{PendingReport}
use Rattle.wh_service.specs.declared.service.ServiceEnd.{ServiceEnd}
use Rattle.wh_service_command.specs.Commands.{faulty_in, HasFinished, HasNotServedFolder, HasServed, HasServedAll, HasServedFolder}
use Rattle.wh_workflow.specs.Law.{Program}

-- what was written of a service stays
pub end_kept : (served : PendingReport) (old mid new : Option (List ℕ)) (end : ServiceEnd)
    → IsEndOf served old mid end → Keeps mid new → IsEndOf served old new end
end_kept served old mid new end h kept = record {
  written = written_kept old mid new _ h.written kept;
  ends = h.ends;
  failures = h.failures;
  uncompared = h.uncompared;
  faultless = h.faultless;
  faults = h.faults;
}

-- the status that was flushed is the one that was given
pub own_status : (answer : Result ℕ CommandFault) (given own : ℕ) → answer ≡ Ok given → answer ≡ Ok own → own ≡ given
own_status answer given own is also = cc

-- what was written of a service can't be put out
pub cut_by : {X : Type 0} (answer : Result X Failure) (failure : Failure) (old first new : ConsoleView)
    → failure ≡ Output → IsErrAnd answer (λ own. own ≡ failure) → IsQuiet old first → IsQuiet first new
    → IfErr answer (λ own. (own ≡ Output) × IsQuiet old new)
cut_by (Ok value) failure old first new output is quiet more = tt
cut_by (Err own) failure old first new output is quiet more = (is ∙ output, quiet_twice old first new quiet more)

-- each input has a mark
marked : {S : Type 0} (gives : Gives) (program : Program S) → HasAMarkEach (HasRead (IsReadAs gives) program) faulty_in
marked gives program own made are = read_each (IsReadAs gives) program own made are

-- what was served was written, and then the rest was reported
pub served_all : {S : Type 0} (gives : Gives) (program : Program S) (types : List ℕ) (hosts : HostsBy) (config sizes : Config) (inputs : List Input) (mode : ProgressMode) (lines : ℕ) (lacks : Bool) (old read first new : ConsoleView) (served : PendingReport) (status : ℕ)
    → config ≡ sizes
    → lines ≡ reported_batches mode (length inputs)
    → HasServed gives program hosts config inputs mode old read served
    → Reported read first (end_text mode lines)
    → HasFinished types served lacks first new status
    → HasServedAll gives program types hosts sizes inputs mode lacks old new status
served_all gives program types hosts config sizes inputs mode lines lacks old read first new served status same many h erased finished =
    let service = end_of_served hosts config (readings_of h.read) h.read.faults.items served first.output finished.between.output finished.end h.service finished.written in
    let told = told_in_all (HasRead (IsReadAs gives) program) faulty_in mode inputs lines h.read old read first (marked gives program) many h.found h.reported erased in
    record {
      files = h.found.files;
      end = finished.end;
      read = first;
      between = finished.between;
      ended = finished.ended;
      from = h.found.from;
      told = subst (λ l. Reported old first (reports_of mode (faulty_of l))) h.found.readings told;
      quiet = finished.quiet;
      served = subst (λ l. IsServiceEnd hosts sizes l first.output finished.between.output finished.end) h.found.readings
          (subst (λ c. IsServiceEnd hosts c (readings_of h.read) first.output finished.between.output finished.end) same service);
      faults = subst (λ l. AreFaultsOf program h.found.files l) (sym (finished.written.faults ∙ h.service.reported)) h.found.reported;
      reported = finished.reported;
      known = finished.known;
      ends = finished.ends;
    }

-- what was served can't be written
pub cut_off : {S : Type 0} (gives : Gives) (program : Program S) (hosts : HostsBy) (config : Config) (inputs : List Input) (mode : ProgressMode) (lines : ℕ) (old read first new : ConsoleView) (served : PendingReport) (failure : Failure)
    → lines ≡ reported_batches mode (length inputs)
    → HasServed gives program hosts config inputs mode old read served
    → Reported read first (end_text mode lines)
    → (failure ≡ Output) × IsQuiet first new
    → LacksReport (HasRead (IsReadAs gives) program) faulty_in mode inputs old new failure
cut_off gives program hosts config inputs mode lines old read first new served failure many h erased cut =
    let told = told_in_all (HasRead (IsReadAs gives) program) faulty_in mode inputs lines h.read old read first (marked gives program) many h.found h.reported erased in
    lacks_for_output (HasRead (IsReadAs gives) program) faulty_in mode inputs h.read old first new failure (marked gives program) h.found told cut

-- so it is with what the rest of the command gives
pub served_all_if : {S : Type 0} (gives : Gives) (program : Program S) (types : List ℕ) (hosts : HostsBy) (config sizes : Config) (inputs : List Input) (mode : ProgressMode) (lines : ℕ) (lacks : Bool) (old read first new : ConsoleView) (served : PendingReport) (answer : Result ℕ Failure)
    → config ≡ sizes
    → lines ≡ reported_batches mode (length inputs)
    → HasServed gives program hosts config inputs mode old read served
    → Reported read first (end_text mode lines)
    → IfOk answer (HasFinished types served lacks first new)
    → IfOk answer (HasServedAll gives program types hosts sizes inputs mode lacks old new)
served_all_if gives program types hosts config sizes inputs mode lines lacks old read first new served (Ok status) same many h erased finished =
    served_all gives program types hosts config sizes inputs mode lines lacks old read first new served status same many h erased finished
served_all_if gives program types hosts config sizes inputs mode lines lacks old read first new served (Err failure) same many h erased finished = tt

pub cut_off_if : {S : Type 0} (gives : Gives) (program : Program S) (hosts : HostsBy) (config : Config) (inputs : List Input) (mode : ProgressMode) (lines : ℕ) (old read first new : ConsoleView) (served : PendingReport) (answer : Result ℕ Failure)
    → lines ≡ reported_batches mode (length inputs)
    → HasServed gives program hosts config inputs mode old read served
    → Reported read first (end_text mode lines)
    → IfErr answer (λ failure. (failure ≡ Output) × IsQuiet first new)
    → IfErr answer (LacksReport (HasRead (IsReadAs gives) program) faulty_in mode inputs old new)
cut_off_if gives program hosts config inputs mode lines old read first new served (Ok status) many h erased cut = tt
cut_off_if gives program hosts config inputs mode lines old read first new served (Err failure) many h erased cut =
    cut_off gives program hosts config inputs mode lines old read first new served failure many h erased cut

-- the work stopped before there was anything to write
pub not_served : {S : Type 0} (gives : Gives) (program : Program S) (inputs : List Input) (mode : ProgressMode) (lines : ℕ) (old read new : ConsoleView) (failure : Failure)
    → lines ≡ reported_batches mode (length inputs)
    → HasStopped (HasRead (IsReadAs gives) program) faulty_in mode inputs old read
    → Reported read new (end_text mode lines)
    → IsReadFailure failure
    → LacksReport (HasRead (IsReadAs gives) program) faulty_in mode inputs old new failure
not_served gives program inputs mode lines old read new failure many stopped erased why =
    lacks_after_stop (HasRead (IsReadAs gives) program) faulty_in mode inputs old new failure
    (stopped_whole (HasRead (IsReadAs gives) program) faulty_in mode inputs lines old read new many stopped erased) why

-- all was read, but not served
pub read_alone : {S : Type 0} (gives : Gives) (program : Program S) (inputs : List Input) (mode : ProgressMode) (old new : ConsoleView) (read : ReadFiles)
    → HasRead (IsReadAs gives) program inputs read
    → Reported old new (reports_after mode (length inputs) (faulty_in read) (reported_batches mode (length inputs)))
    → HasStopped (HasRead (IsReadAs gives) program) faulty_in mode inputs old new
read_alone gives program inputs mode old new read found reported =
    stopped_after_all (HasRead (IsReadAs gives) program) faulty_in mode inputs read old new found reported

-- the files of a folder were served by a host that runs the program
pub served_folder : {S : Type 0} (program : Program S) (types dir : List ℕ) (config : Config) (required progress left_out lacks : Bool) (link : Option (List ℕ)) (mode : ProgressMode) (inputs : List Input) (old between new : ConsoleView) (answer : Result ℕ Failure)
    → IsListed false dir inputs left_out old between
    → lacks ≡ lacks_files left_out required inputs
    → mode ≡ mode_by link progress
    → IfOk answer (HasServedAll IsReadFrom program types (by_closure (IsHosted program)) config inputs mode lacks between new)
    → IfOk answer (HasServedFolder program types dir config required progress old new)
served_folder program types dir config required progress left_out lacks link mode inputs old between new (Ok status) listed same shown h =
    record {
      inputs = inputs;
      left_out = left_out;
      between = between;
      listed = listed;
      done = (
        link,
        record {
          files = h.files;
          end = h.end;
          read = h.read;
          between = h.between;
          ended = h.ended;
          from = h.from;
          told = subst (λ m. Reported between h.read (reports_of m (faulty_of (map reading_of h.files)))) shown h.told;
          quiet = h.quiet;
          served = end_by (by_closure (IsHosted program)) (IsHosted program) config (map reading_of h.files) h.read.output h.between.output h.end (λ setups left hosted. hosted.2) h.served;
          faults = h.faults;
          reported = h.reported;
          known = h.known;
          ends = subst (λ l. status ≡ status_with l h.end.status) same h.ends;
        },
      );
    }
served_folder program types dir config required progress left_out lacks link mode inputs old between new (Err failure) listed same shown h = tt

-- the files of a folder were listed, but not served
pub stopped_in_folder : {S : Type 0} (program : Program S) (dir : List ℕ) (progress left_out : Bool) (link : Option (List ℕ)) (mode : ProgressMode) (inputs : List Input) (old between new : ConsoleView) (answer : Result ℕ Failure)
    → IsListed false dir inputs left_out old between
    → mode ≡ mode_by link progress
    → IfErr answer (LacksReport (HasRead (IsReadAs IsReadFrom) program) faulty_in mode inputs between new)
    → IfErr answer (HasNotServedFolder program dir progress old new)
stopped_in_folder program dir progress left_out link mode inputs old between new (Ok status) listed shown h = tt
stopped_in_folder program dir progress left_out link mode inputs old between new (Err failure) listed shown h =
    inr (record {
      inputs = inputs;
      left_out = left_out;
      between = between;
      listed = listed;
      done = (link, subst (λ m. LacksReport (HasRead (IsReadAs IsReadFrom) program) faulty_in m inputs between new failure) shown h);
    })
