-- What replay of files writes and reports.
use Rattle.std.specs.Prelude.{◌≡◌, ◌⊎◌, ℕ, List, ◌∷◌, Bool, Option}
use Rattle.std.specs.List.{list_any}
use Rattle.wh_console.specs.declared.replay_options.ReplayOptions.{ReplayOptions}
use Rattle.wh_console.specs.Consoles.{ConsoleView, Printed, Reported}
use Rattle.wh_report.specs.Notes.{records_lines}
use Rattle.wh_diagnostics.specs.Printing.{status_with}
use Rattle.wh_diagnostics.specs.declared.failures.Failure.{Failure}
use Rattle.wh_console.specs.Inputs.{IsReadFrom}
use Rattle.wh_console.specs.declared.files.Input.{Input}
use Rattle.wh_replay_command.specs.Batches.{faulty_of}
use Rattle.wh_diagnostics.specs.Listings.{AfterListing, AreListed, AreUnlisted, is_by_path, lacks_files}
use Rattle.wh_diagnostics.specs.Readings.{Gives, IsReadAs}
use Rattle.wh_diagnostics.specs.KnownTypes.{known_types_text}
use Rattle.wh_diagnostics.specs.Batches.{LacksReport, reports_of}
use Rattle.wh_diagnostics.specs.ProgressModes.{mode_by}
use Rattle.wh_diagnostics.specs.declared.progress_modes.ProgressMode.{ProgressMode}
use Rattle.wh_report.specs.Records.{AreRecordsOf}
use Rattle.wh_report.specs.Reports.{records_status, report_of}
use Rattle.wh_report.specs.declared.records.Record.{Record}
use Rattle.wh_tester.specs.UnknownTypes.{is_no_code}
use Rattle.wh_workflow.specs.Law.{Program}

-- the report of records was written, then the rest of them was reported, and the status is that of the report, unless
-- files are lacking
pub record HasReported (records : List Record) (options : ReplayOptions) (lacks : Bool) (old new : ConsoleView)
    (status : ℕ) : Type 0 where
  pub between : ConsoleView
  pub printed : Printed old between (report_of options records)
  pub reported : Reported between new (records_lines records)
  pub ends : status ≡ status_with lacks (records_status records)

-- inputs were read as files and replayed, progress was reported, and then the report of their records was written,
-- which does not depend on how progress is shown; last the registered workflow types were reported, if a file has
-- another one
pub record HasReplayed {S : Type 0} (gives : Gives) (options : ReplayOptions) (program : Program S) (types : List ℕ)
    (inputs : List Input) (mode : ProgressMode) (lacks : Bool) (old new : ConsoleView) (status : ℕ) : Type 0 where
  pub records : List Record
  pub between : ConsoleView
  pub ended : ConsoleView
  pub found : AreRecordsOf options program (IsReadAs gives) inputs records
  pub told : Reported old between (reports_of mode (faulty_of records))
  pub reported : HasReported records options lacks between ended status
  pub known : Reported ended new (known_types_text types (list_any (λ own. is_no_code own.line.verdict) records))

-- what paths name was replayed, and progress was reported as some link of the standard error and the option for it have
-- it
abbrev pub HasReplayedPaths : {S : Type 0} → Program S → (types first : List ℕ) → (more : List (List ℕ))
    → ReplayOptions → (old new : ConsoleView) → (status : ℕ) → Type 0
HasReplayedPaths program types first more options =
    AfterListing (AreListed (is_by_path more) (first ∷ more)) (λ inputs left_out old new status.
    (link : Option (List ℕ)) × HasReplayed IsReadFrom options program types inputs (mode_by link options.progress)
    (lacks_files left_out options.require_files inputs) old new status)

-- there is no report of a replay of what paths name: one of them can't be listed, or their files have none, or it can't
-- be written
abbrev pub HasNotReplayedPaths : {S : Type 0} → Program S → (first : List ℕ) → (more : List (List ℕ))
    → ReplayOptions → (old new : ConsoleView) → Failure → Type 0
HasNotReplayedPaths program first more options old new failure =
    AreUnlisted (is_by_path more) (first ∷ more) old new failure
    ⊎ AfterListing (AreListed (is_by_path more) (first ∷ more)) (λ inputs left_out old new failure.
    (link : Option (List ℕ))
    × LacksReport (AreRecordsOf options program (IsReadAs IsReadFrom)) faulty_of (mode_by link options.progress) inputs
    old new failure)
    old new failure
