-- What replay wrote and reported, one step after the other.
use Rattle.std.proofs.Common.{◌≡◌, ◌∙◌, inr, ℕ, List, [], ◌∷◌, ◌++◌, append-nil, refl, sym, ap, subst}
use Rattle.std.specs.Prelude.{Bool, Option, Result, Ok, Err, IfErr, IfOk, OnOk}
use Rattle.std.specs.Io.KnownBytes.{Keeps}
use Rattle.std.proofs.KnownBytes.{Appends-nil}
use Rattle.std.proofs.lemmas.Grind.{flat_map-append}
use Rattle.wh_console.specs.declared.replay_options.ReplayOptions.{ReplayOptions}
use Rattle.wh_console.proofs.Printing.{printed_kept}
use Rattle.wh_console.specs.Consoles.{ConsoleView, IsQuiet, Printed, Reported}
use Rattle.wh_diagnostics.proofs.Telling.{reported_as, reported_both}
use Rattle.wh_report.specs.Notes.{record_lines, records_lines}
use Rattle.wh_diagnostics.specs.Printing.{status_with}
use Rattle.wh_diagnostics.specs.declared.failures.Failure.{Failure}
use Rattle.wh_file_faults.specs.declared.command_fault.CommandFault.{CommandFault}
use Rattle.wh_console.specs.Inputs.{IsReadFrom}
use Rattle.wh_console.specs.declared.files.Input.{Input}
use Rattle.wh_diagnostics.specs.Listings.{AreListed, is_by_path, lacks_files}
use Rattle.wh_diagnostics.specs.Readings.{IsReadAs}
use Rattle.wh_diagnostics.specs.Batches.{LacksReport}
use Rattle.wh_diagnostics.specs.ProgressModes.{mode_by}
use Rattle.wh_diagnostics.specs.declared.progress_modes.ProgressMode.{ProgressMode}
use Rattle.wh_replay_command.specs.Batches.{faulty_of}
use Rattle.wh_replay_command.specs.Replays.{HasNotReplayedPaths, HasReplayed, HasReplayedPaths, HasReported}
use Rattle.wh_report.specs.Records.{AreRecordsOf}
use Rattle.wh_report.specs.Reports.{records_status, report_of}
use Rattle.wh_report.specs.declared.records.Record.{Record}
use Rattle.wh_workflow.specs.Law.{Program}

-- nothing stands beside the records of no files
pub nothing_reported : (a : ConsoleView) → Reported a a (records_lines [])
nothing_reported a = record { named = refl; output = refl; closed = refl; told = λ whole. (whole, Appends-nil a.errors) }

-- what stands beside one record more was reported
pub one_reported : (a b c : ConsoleView) (front : List Record) (own : Record)
    → Reported a b (records_lines front) → Reported b c (record_lines own) → Reported a c (records_lines (front ++ own ∷ []))
one_reported a b c front own before after =
    let line : Record → List ℕ = λ one. record_lines one a.name in
    let same : records_lines front a.name ++ line own ≡ records_lines (front ++ own ∷ []) a.name = rw (flat_map-append line front (own ∷ []), append-nil (line own)) refl in
    reported_as a c (λ name. records_lines front name ++ record_lines own name) (records_lines (front ++ own ∷ [])) same
    (reported_both a b c (records_lines front) (record_lines own) before after)

-- a report was printed, and once it was out the rest was reported
pub report_ended : (records seen : List Record) (options : ReplayOptions) (lacks : Bool) (old first between new : ConsoleView) (answer : Result ℕ CommandFault) (own status : ℕ)
    → seen ≡ records
    → OnOk answer (Printed old first (report_of options seen)) → IfOk answer (λ status. status ≡ records_status seen)
    → IsQuiet first between → Keeps first.output between.output → answer ≡ Ok own
    → Reported between new (records_lines records) → status ≡ status_with lacks own
    → HasReported records options lacks old new status
report_ended records seen options lacks old first between new (Ok given) own status same printed ends quiet kept is reported given_status = record {
  between = between;
  printed = subst (λ l. Printed old between (report_of options l)) same (printed_kept old first between (report_of options seen) printed quiet kept);
  reported = reported;
  ends = (let one : given ≡ own = cc in given_status ∙ ap (status_with lacks) (sym one ∙ ends ∙ ap records_status same));
}
report_ended records seen options lacks old first between new (Err fault) own status same printed ends quiet kept is reported given_status = absurd cc

-- the inputs of paths were replayed
pub replayed_paths : {S : Type 0} (program : Program S) (types first : List ℕ) (more : List (List ℕ)) (options : ReplayOptions) (left_out lacks : Bool) (link : Option (List ℕ)) (mode : ProgressMode) (inputs : List Input) (old between new : ConsoleView) (answer : Result ℕ Failure)
    → AreListed (is_by_path more) (first ∷ more) inputs left_out old between
    → lacks ≡ lacks_files left_out options.require_files inputs
    → mode ≡ mode_by link options.progress
    → IfOk answer (HasReplayed IsReadFrom options program types inputs mode lacks between new)
    → IfOk answer (HasReplayedPaths program types first more options old new)
replayed_paths program types first more options left_out lacks link mode inputs old between new (Ok status) listed same shown h =
    record {
      inputs = inputs;
      left_out = left_out;
      between = between;
      listed = listed;
      done = (
        link,
        subst (λ m. HasReplayed IsReadFrom options program types inputs m (lacks_files left_out options.require_files inputs) between new status) shown
            (subst (λ l. HasReplayed IsReadFrom options program types inputs mode l between new status) same h),
      );
    }
replayed_paths program types first more options left_out lacks link mode inputs old between new (Err failure) listed same shown h = tt

-- or the replay stopped after they were listed
pub stopped_at_paths : {S : Type 0} (program : Program S) (first : List ℕ) (more : List (List ℕ)) (options : ReplayOptions) (left_out : Bool) (link : Option (List ℕ)) (mode : ProgressMode) (inputs : List Input) (old between new : ConsoleView) (answer : Result ℕ Failure)
    → AreListed (is_by_path more) (first ∷ more) inputs left_out old between
    → mode ≡ mode_by link options.progress
    → IfErr answer (LacksReport (AreRecordsOf options program (IsReadAs IsReadFrom)) faulty_of mode inputs between new)
    → IfErr answer (HasNotReplayedPaths program first more options old new)
stopped_at_paths program first more options left_out link mode inputs old between new (Ok status) listed shown h = tt
stopped_at_paths program first more options left_out link mode inputs old between new (Err failure) listed shown h =
    inr (record {
      inputs = inputs;
      left_out = left_out;
      between = between;
      listed = listed;
      done = (link, subst (λ m. LacksReport (AreRecordsOf options program (IsReadAs IsReadFrom)) faulty_of m inputs between new failure) shown h);
    })
