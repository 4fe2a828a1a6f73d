-- Records of batches of files.
use Rattle.std.specs.Prelude.{◌≡◌, List, ◌++◌, Bool, map, not}
use Rattle.wh_file_faults.specs.Faults.{File}
use Rattle.wh_report.specs.Records.{AreRecordsOf}
use Rattle.wh_report.specs.declared.records.Record.{Record}
use Rattle.wh_tester.specs.Report.{is_good}
use Rattle.wh_console.specs.declared.replay_options.ReplayOptions.{ReplayOptions}
use Rattle.wh_workflow.specs.Law.{Program}

-- which files have a fault
abbrev pub faulty_of : List Record → List Bool
faulty_of records = map (λ own. not (is_good own.line.verdict)) records

-- the records of inputs stand after those of others
pub record AddsRecords {S T : Type 0} (options : ReplayOptions) (program : Program S) (Reads : T → File → Type 0)
    (inputs : List T) (old new : List Record) : Type 0 where
  pub own : List Record
  pub found : AreRecordsOf options program Reads inputs own
  pub added : new ≡ old ++ own
