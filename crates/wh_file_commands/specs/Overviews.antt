-- An overview of histories: what it writes of each and of all, and its status.
use Rattle.std.specs.Prelude.{◌≡◌, ◌⊎◌, ℕ, List, [], ◌∷◌, ◌++◌, codes, is_some, Option, Some, None, string_bytes, if◌then◌else◌}
use Rattle.std.specs.List.{list_all}
use Rattle.wh_console.specs.Reasons.{reason_words}
use Rattle.wh_console.specs.declared.files.Input.{Input}
use Rattle.wh_console.specs.declared.files.Reason.{Reason}
use Rattle.wh_console.specs.declared.format.Format.{Format}
use Rattle.wh_console.specs.declared.format.Format.TheVariants.{Text, Json}
use Rattle.wh_diagnostics.specs.Failures.{IsWriteFailure}
use Rattle.wh_diagnostics.specs.Printing.{HasPrinted, status_with}
use Rattle.wh_diagnostics.specs.Readings.{Gives, IsReadAs}
use Rattle.wh_diagnostics.specs.Walks.{Visits}
use Rattle.wh_diagnostics.specs.declared.failures.Failure.{Failure}
use Rattle.wh_diagnostics.specs.declared.failures.Failure.TheVariants.{NotJson, NotViewed}
use Rattle.wh_explain_report.specs.Overviews.{counts_as, run_as}
use Rattle.wh_file_commands.specs.Refusals.{IsUnshown}
use Rattle.wh_file_faults.specs.DetailTexts.{detail_members, detail_text}
use Rattle.wh_file_faults.specs.Faults.{File}
use Rattle.wh_json.specs.declared.fault.ReadFault.{ReadFault}
use Rattle.wh_json.specs.declared.fault.ReadFault.TheVariants.{BadJson}
use Rattle.wh_tester.specs.Json.{escaped, following, json_line, open_line}
use Rattle.wh_tester.specs.Report.{line_text, shown}
use Rattle.wh_tester.specs.declared.line.Line.{Line}
use Rattle.wh_tester.specs.declared.line.Verdict.TheVariants.{Unreadable}
use Rattle.wh_view.specs.Runs.{status_of}
use Rattle.wh_view.specs.Views.{IsViewIn}
use Rattle.wh_view.specs.declared.view.RunStatus.{RunStatus}
use Rattle.wh_view.specs.declared.view.View.{View as FileView}

-- the line of a file in the report of replay, if it can't be read as a history
abbrev pub unreadable_file : (name : List ℕ) → ReadFault → Line
unreadable_file name fault = record { name = name; verdict = Unreadable fault }

-- the line of a file that has no history: `NAME: WHERE` if it stops being JSON there, or else its line in the report of
-- replay; as JSON its object in that report
abbrev pub no_history_as : Format → Failure → List ℕ
no_history_as Text (NotJson name detail) = shown name ++ (codes ": " ++ (detail_text detail ++ 10 ∷ []))
no_history_as Json (NotJson name detail) =
    open_line (unreadable_file name BadJson) ++ (following (detail_members (Some detail)) ++ codes "}\n")
no_history_as Text (NotViewed name fault) = line_text (unreadable_file name fault)
no_history_as Json (NotViewed name fault) = json_line (unreadable_file name fault)
no_history_as format _ = []

-- the line of what can't be read, with the reason of the system in words; as JSON with the members that a file has in the
-- report of replay
abbrev pub unread_as : Format → (name : List ℕ) → Reason → List ℕ
unread_as Text name reason = shown name ++ (codes ": unreadable, " ++ (reason_words reason ++ 10 ∷ []))
unread_as Json name reason =
    codes "{\"file\":\"" ++ (escaped (shown name) ++ (codes "\",\"verdict\":\"unreadable\",\"fault\":\""
    ++ (escaped (shown (reason_words reason)) ++ codes "\"}\n")))

-- a failure that an overview tells in a line: a file has no history, since it is no JSON, or has no list of events for
-- another reason
abbrev pub IsInLine : Failure → Type 0
IsInLine (NotJson name detail) = Unit {0}
IsInLine (NotViewed name fault) = Unit {0}
IsInLine _ = ⊥

-- what is kept of a file that was read, which is the status of its run, and what is written of it: the line of the run,
-- or why there is none
abbrev pub TellsFile : File → Format → Option RunStatus → (text : List ℕ) → Type 0
TellsFile file format status text =
    ((view : FileView) × IsViewIn file.1.items view × (status ≡ Some (status_of view.events))
    × (text ≡ run_as format (string_bytes file.0) view))
    ⊎ ((failure : Failure) × IsInLine failure × IsUnshown file failure × (status ≡ None)
    × (text ≡ no_history_as format failure))

-- the same of an input: of the file as which it was read, or it can't be read, and why
abbrev pub TellsInput : Gives → Input → Format → Option RunStatus → (text : List ℕ) → Type 0
TellsInput gives input format status text =
    ((file : File) × IsReadAs gives input file × TellsFile file format status text)
    ⊎ ((reason : Reason) × (status ≡ None) × (text ≡ unread_as format (string_bytes input.name) reason))

-- 0 if each input is a history, by the statuses of their runs, and else 1
abbrev pub overview_status : List (Option RunStatus) → ℕ
overview_status statuses = if list_all is_some statuses then 0 else 1

-- an overview: the line of each input, and then how many runs have each status; the status is that of the overview, unless
-- files are lacking
abbrev pub overviews : Format → Visits (Option RunStatus)
overviews format =
    record {
      tells = λ gives input. TellsInput gives input format;
      stops = λ input. IsWriteFailure;
      ends = λ statuses lacks. HasPrinted (counts_as format statuses) (status_with lacks (overview_status statuses));
    }
