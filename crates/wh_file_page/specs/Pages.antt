-- The page of a file.
use Rattle.std.specs.Prelude.{◌≡◌, ◌≢◌, ◌||◌, ℕ, Bool, true, false, not, bytes_eq, nat_eq, length, slice_get, if◌then◌else◌, List, codes, Option, Some, None}
use Rattle.std.specs.Io.KnownBytes.{Appends}
use Rattle.wh_explain.specs.Differences.{IsDifferenceIn}
use Rattle.wh_tester.specs.UnknownTypes.{unregistered_type}
use Rattle.wh_explain.specs.declared.explanation.Explanation.{Explanation}
use Rattle.wh_file_faults.specs.Details.{detail_of}
use Rattle.wh_file_faults.specs.declared.detail.FaultDetail.{FaultDetail}
use Rattle.wh_html.specs.Html.{bytes as bytes_of}
use Rattle.wh_page.specs.Pages.{page_html}
use Rattle.wh_run_page.specs.Pages.{IsPageOf as IsRunPageOf}
use Rattle.wh_run_page.specs.declared.said.Said.{Said}
use Rattle.wh_tester.specs.Report.{is_good, verdict_text}
use Rattle.wh_tester.specs.Verdicts.{IsVerdict}
use Rattle.wh_tester.specs.declared.line.Verdict.{Verdict}
use Rattle.wh_tester.specs.declared.line.Verdict.TheVariants.{OutOfMemory}
use Rattle.wh_html.specs.Views.{IsAxisOf}
use Rattle.wh_html.specs.declared.axis.Stop.{Stop}
use Rattle.wh_html.specs.declared.page.Page.{Page}
use Rattle.wh_view.specs.Views.{IsViewIn}
use Rattle.wh_view.specs.declared.view.View.{View}
use Rattle.wh_view_report.specs.Texts.{workflow_type}
use Rattle.wh_workflow.specs.Law.{Program}
use Rattle.wh_file_page.specs.declared.run_table.RunTable.{RunTable}
use Rattle.wh_file_page.specs.RunTables.{IsTableOf, table_html}
use Rattle.wh_file_page.specs.Words.{verdict_place, difference_of, note_of}

-- the title of the page of a file: its name; of standard input, whose name is `-`, the workflow type, if it has one
abbrev pub title_of : (name : List ℕ) → View → List ℕ
title_of name view =
    let type_name = workflow_type (slice_get view.events 0) in
    if not (bytes_eq name (codes "-")) || nat_eq (length type_name) 0 then name else type_name

-- the status of the report of a file with this verdict
abbrev pub status_of : Verdict → ℕ
status_of verdict = if is_good verdict then 0 else 1

-- what is said of a file with what its replay found, and what its fault leaves out: the verdict in the words of its line
unfoldable pub said_of : (name : List ℕ) → Explanation → Option FaultDetail → Said
said_of name explanation detail =
    record {
      title = name;
      verdict = verdict_text explanation.verdict;
      good = Some (is_good explanation.verdict);
      place = verdict_place explanation.verdict;
      difference = difference_of explanation.difference;
      note = note_of (unregistered_type explanation.verdict) detail;
    }

abbrev pub said_in : (name bytes : List ℕ) → Explanation → Said
said_in name bytes explanation = said_of name explanation (detail_of explanation.verdict bytes)

-- what is said of a file that is not replayed
abbrev pub recorded_said : (name : List ℕ) → Said
recorded_said name =
    record {
      title = name;
      verdict = codes "recorded, and not replayed";
      good = None;
      place = None;
      difference = None;
      note = None;
    }

module _ {S : Type 0} where
  -- a replay found that of bytes, and there was memory for it
  pub record IsFoundIn (program : Program S) (bytes : List ℕ) (explanation : Explanation) : Type 0 where
    pub verdict : IsVerdict program bytes explanation.verdict
    pub known : explanation.verdict ≢ OutOfMemory
    pub difference : IsDifferenceIn program bytes explanation.difference

  -- what is said of a file that is replayed, and the status of its report
  pub record IsReplayed (program : Program S) (name bytes : List ℕ) (said : Said) (status : ℕ) : Type 0 where
    pub explanation : Explanation
    pub found : IsFoundIn program bytes explanation
    pub is : said ≡ said_in name bytes explanation
    pub ends : status ≡ status_of explanation.verdict

  -- what is said of a file, which is replayed unless only what is recorded is asked for
  abbrev pub IsSaidOf : Program S → (only_recorded : Bool) → (name bytes : List ℕ) → Said → (status : ℕ) → Type 0
  IsSaidOf program true name bytes said status = (said ≡ recorded_said name) × (status ≡ 0)
  IsSaidOf program false name bytes said status = IsReplayed program name bytes said status

  -- the page of a file with this view, and the status of its report
  pub record IsPageOf (program : Program S) (only_recorded : Bool) (name bytes : List ℕ) (view : View) (page : Page)
      (status : ℕ) : Type 0 where
    pub said : Said
    pub found : IsSaidOf program only_recorded (title_of name view) bytes said status
    pub shows : IsRunPageOf view said page

  -- the page of a file was written, with its times where its axis has them, and with the table of its run, if that brought one
  pub record IsPaged (program : Program S) (only_recorded : Bool) (name bytes : List ℕ) (old new : Option (List ℕ))
      (status : ℕ) : Type 0 where
    pub view : View
    pub viewed : IsViewIn bytes view
    pub page : Page
    pub shows : IsPageOf program only_recorded name bytes view page status
    pub stops : List Stop
    pub axis : IsAxisOf page stops
    pub table : Option RunTable
    pub brought : IsTableOf only_recorded bytes table
    pub written : Appends old new (bytes_of (page_html stops page (table_html table)))
