-- What a service of files writes and reports.
use Rattle.std.specs.Prelude.{◌≡◌, ◌⊎◌, ℕ, List, length, map, Bool, false, Option}
use Rattle.std.specs.List.{AllZip}
use Rattle.wh_console.specs.Consoles.{ConsoleView, IsQuiet, Reported}
use Rattle.wh_diagnostics.specs.Printing.{status_with}
use Rattle.wh_diagnostics.specs.declared.failures.Failure.{Failure}
use Rattle.wh_file_faults.specs.Faults.{File}
use Rattle.wh_console.specs.Inputs.{IsReadFrom}
use Rattle.wh_console.specs.declared.files.Input.{Input}
use Rattle.wh_slots.specs.declared.sizes.Config.{Config}
use Rattle.wh_diagnostics.specs.Listings.{AfterListing, IsListed, IsUnreadAt, lacks_files}
use Rattle.wh_diagnostics.specs.Readings.{Gives, IsReadAs}
use Rattle.wh_diagnostics.specs.KnownTypes.{known_types_text}
use Rattle.wh_diagnostics.specs.Batches.{LacksReport, reports_after, reported_batches, reports_of}
use Rattle.wh_diagnostics.specs.ProgressModes.{mode_by}
use Rattle.wh_diagnostics.specs.declared.progress_modes.ProgressMode.{ProgressMode}
use Rattle.wh_service.specs.Faults.{AreFaultsOf}
use Rattle.wh_service.specs.Readings.{HasRead, faulty_of, reading_of, readings_of}
use Rattle.wh_service.specs.Services.{HostsBy, IsEndOf, IsHosted, IsServed, IsServiceEnd}
use Rattle.wh_service.specs.declared.readings.ReadFiles.{ReadFiles}
use Rattle.wh_service.specs.declared.service.PendingReport.{PendingReport}
use Rattle.wh_service.specs.declared.service.ServiceEnd.{ServiceEnd}
use Rattle.wh_service_command.specs.Diagnostics.{faults_lack_code, service_lines}
use Rattle.wh_workflow.specs.Law.{Program}

-- which files have a fault, as progress counts them
abbrev pub faulty_in : ReadFiles → List Bool
faulty_in read = faulty_of (readings_of read)

-- inputs were read batch by batch, progress was reported after each batch but the last, and a host served the files
pub record HasServed {S : Type 0} (gives : Gives) (program : Program S) (hosts : HostsBy) (config : Config)
    (inputs : List Input) (mode : ProgressMode) (old new : ConsoleView) (served : PendingReport) : Type 0 where
  pub read : ReadFiles
  pub found : HasRead (IsReadAs gives) program inputs read
  pub reported : Reported old new
      (reports_after mode (length inputs) (faulty_in read) (reported_batches mode (length inputs)))
  pub service : IsServed hosts config (readings_of read) read.faults.items served

-- the report of what was served was written, and once it was out, the rest was reported, and the registered workflow
-- types if the type of a file is not registered; the status is that of the service, unless files are lacking
pub record HasFinished (types : List ℕ) (served : PendingReport) (lacks : Bool) (old new : ConsoleView)
    (status : ℕ) : Type 0 where
  pub end : ServiceEnd
  pub between : ConsoleView
  pub ended : ConsoleView
  pub quiet : IsQuiet old between
  pub written : IsEndOf served old.output between.output end
  pub reported : Reported between ended (service_lines end)
  pub known : Reported ended new (known_types_text types (faults_lack_code end.file_faults.items))
  pub ends : status ≡ status_with lacks end.status

-- the files of inputs, in the same order, were read; progress was reported, by which of them have no history that can be
-- read, and what erases a line of it was written; the report of a service of these files was written, which does not
-- depend on how progress is shown; then the rest was reported, and the registered workflow types if the type of a file
-- is not registered; the status is that of the service, unless files are lacking
pub record HasServedAll {S : Type 0} (gives : Gives) (program : Program S) (types : List ℕ) (hosts : HostsBy)
    (config : Config) (inputs : List Input) (mode : ProgressMode) (lacks : Bool) (old new : ConsoleView)
    (status : ℕ) : Type 0 where
  pub files : List File
  pub end : ServiceEnd
  pub read : ConsoleView
  pub between : ConsoleView
  pub ended : ConsoleView
  pub from : AllZip (IsReadAs gives) inputs files
  pub told : Reported old read (reports_of mode (faulty_of (map reading_of files)))
  pub quiet : IsQuiet read between
  pub served : IsServiceEnd hosts config (map reading_of files) read.output between.output end
  pub faults : AreFaultsOf program files end.file_faults.items
  pub reported : Reported between ended (service_lines end)
  pub known : Reported ended new (known_types_text types (faults_lack_code end.file_faults.items))
  pub ends : status ≡ status_with lacks end.status

-- the files of a folder were served by a host of these sizes, and progress was reported as some link of the standard
-- error and the option for it have it
abbrev pub HasServedFolder : {S : Type 0} → Program S → (types dir : List ℕ) → Config → (required progress : Bool)
    → (old new : ConsoleView) → (status : ℕ) → Type 0
HasServedFolder program types dir config required progress =
    AfterListing (IsListed false dir) (λ inputs left_out old new status. (link : Option (List ℕ))
    × HasServedAll IsReadFrom program types (IsHosted program) config inputs (mode_by link progress)
    (lacks_files left_out required inputs) old new status)

-- there is no report of a service of a folder: it can't be listed, and the console is as it was, or its files have none,
-- or it can't be written
abbrev pub HasNotServedFolder : {S : Type 0} → Program S → (dir : List ℕ) → (progress : Bool) → (old new : ConsoleView)
    → Failure → Type 0
HasNotServedFolder program dir progress old new failure =
    (IsUnreadAt dir failure × (new ≡ old))
    ⊎ AfterListing (IsListed false dir) (λ inputs left_out old new failure. (link : Option (List ℕ))
    × LacksReport (HasRead (IsReadAs IsReadFrom) program) faulty_in (mode_by link progress) inputs old new failure)
    old new failure
