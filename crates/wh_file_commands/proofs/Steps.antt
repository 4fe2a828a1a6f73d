-- What commands of files wrote and reported, one step after the other.
use Rattle.std.proofs.Common.{◌≡◌, ◌∙◌, ℕ, List, [], ◌∷◌, Some, refl, sym, subst}
use Rattle.std.specs.Prelude.{Bool, Option, Result, Ok, Err, IfOk, string_bytes}
use Rattle.std.specs.Io.KnownBytes.{Keeps}
use Rattle.wh_console.proofs.Printing.{printed_kept, quiet_twice, written_kept}
use Rattle.wh_console.specs.Consoles.{ConsoleView, IsQuiet, Printed, Reported}
use Rattle.wh_console.specs.declared.format.Format.{Format}
use Rattle.wh_file_faults.specs.DetailTexts.{detail_lines}
use Rattle.wh_report.specs.Notes.{record_lines}
use Rattle.wh_diagnostics.specs.KnownTypes.{known_types_text}
use Rattle.wh_tester.specs.UnknownTypes.{is_no_code}
use Rattle.wh_diagnostics.specs.Printing.{HasPrinted}
use Rattle.wh_diagnostics.specs.declared.failures.Failure.{Failure}
use Rattle.wh_file_commands.specs.Explanations.{HasExplained}
use Rattle.wh_file_commands.specs.Pages.{HasPaged}
use Rattle.wh_file_commands.specs.Queries.{HasQueried}
use Rattle.wh_file_commands.specs.Views.{HasViewed}
use Rattle.wh_file_faults.specs.Details.{IsUnreadDetail}
use Rattle.wh_file_faults.specs.Faults.{File}
use Rattle.wh_file_faults.specs.declared.command_fault.CommandFault.{CommandFault}
use Rattle.wh_file_faults.specs.declared.detail.FaultDetail.{FaultDetail}
use Rattle.wh_file_page.specs.Pages.{IsPaged}
use Rattle.wh_workflow.specs.Queries.{Queries}
use Rattle.wh_workflow.specs.declared.queryable.Query.{Query}
use Rattle.wh_file_commands.specs.Queried.{IsQueried, status_of as query_status}
use Rattle.wh_file_commands.specs.QueryTexts.{queried_as}
use Rattle.wh_file_commands.specs.declared.queried.Queried.{Queried}
use Rattle.wh_explain_report.specs.Explained.{IsExplained, status_of, view_as}
use Rattle.wh_tester.specs.declared.line.Line.{Line}
use Rattle.wh_view.specs.Views.{IsViewIn}
use Rattle.wh_view.specs.declared.view.View.{View}
use Rattle.wh_console.specs.declared.selection.Selection.{Selection}
use Rattle.wh_workflow.specs.Law.{Program}

-- the explanation of a file that was written stays
explained_kept : {S : Type 0} (program : Program S) (name bytes : List ℕ) (selection : Option Selection) (format : Format) (a b c : Option (List ℕ)) (line : Line)
    → IsExplained program name bytes selection format a b line → Keeps b c → IsExplained program name bytes selection format a c line
explained_kept program name bytes selection format a b c line h kept = record {
  explanation = h.explanation;
  view = h.view;
  found = h.found;
  named = h.named;
  verdict = h.verdict;
  viewed = h.viewed;
  written = written_kept a b c _ h.written kept;
}

-- a file was explained, and once that was out at most one line was reported of it
pub explanation_ended : {S : Type 0} (program : Program S) (selection : Option Selection) (format : Format) (file : File) (seen : List ℕ) (old first between new : ConsoleView) (line : Line) (detail : Option FaultDetail) (answer : Result ℕ CommandFault) (given status : ℕ)
    → seen ≡ file.1.items
    → IsQuiet old first → IsExplained program (string_bytes file.0) seen selection format old.output first.output line
    → IsQuiet first between → Keeps first.output between.output
    → IsUnreadDetail line.verdict seen detail → Reported between new (detail_lines line.name detail)
    → given ≡ status_of (line ∷ []) → answer ≡ Ok given → answer ≡ Ok status
    → HasExplained program selection format file old new status
explanation_ended program selection format file seen old first between new line detail answer given status same_seen quiet explained more kept unread reported is same_given same_status =
    let same : given ≡ status = cc in
    record {
      between = between;
      line = line;
      detail = detail;
      quiet = quiet_twice old first between quiet more;
      explained = explained_kept program (string_bytes file.0) file.1.items selection format old.output first.output between.output line
          (subst (λ l. IsExplained program (string_bytes file.0) l selection format old.output first.output line) same_seen explained) kept;
      unread = subst (λ l. IsUnreadDetail line.verdict l detail) same_seen unread;
      reported = reported;
      ends = sym same ∙ is;
    }

-- what came of a query was written, and once that was out the rest was reported
pub query_ended : {S : Type 0} (program : Program S) (queries : Queries S) (types : List ℕ) (file : File) (query : Query) (format : Format) (old first between ended new : ConsoleView) (queried : Queried) (answer : Result ℕ CommandFault) (given status : ℕ)
    → IsQueried program queries file query queried → Printed old first (queried_as format queried)
    → IsQuiet first between → Keeps first.output between.output
    → Reported between ended (record_lines queried.own)
    → Reported ended new (known_types_text types (is_no_code queried.own.line.verdict))
    → given ≡ query_status queried → answer ≡ Ok given → answer ≡ Ok status
    → HasQueried program queries types (Some query) format file old new status
query_ended program queries types file query format old first between ended new queried answer given status is printed quiet kept reported known is_given same_given same_status =
    let same : given ≡ status = cc in
    record {
      query = query;
      asks = refl;
      queried = queried;
      between = between;
      ended = ended;
      is = is;
      printed = printed_kept old first between (queried_as format queried) printed quiet kept;
      reported = reported;
      known = known;
      ends = sym same ∙ is_given;
    }

-- the view of a file was printed
pub view_printed : (selection : Option Selection) (format : Format) (file : File) (seen : List ℕ) (view : View) (old new : ConsoleView) (answer : Result ℕ Failure)
    → seen ≡ file.1.items → IsViewIn seen view → IfOk answer (HasPrinted (view_as selection format view) 0 old new)
    → IfOk answer (HasViewed selection format file old new)
view_printed selection format file seen view old new (Ok status) same_seen viewed printed =
    record { view = view; viewed = subst (λ l. IsViewIn l view) same_seen viewed; printed = printed }
view_printed selection format file seen view old new (Err failure) same_seen viewed printed = tt

-- the page of a file that was written stays
paged_kept : {S : Type 0} (program : Program S) (only_recorded : Bool) (name bytes : List ℕ) (a b c : Option (List ℕ)) (status : ℕ)
    → IsPaged program only_recorded name bytes a b status → Keeps b c → IsPaged program only_recorded name bytes a c status
paged_kept program only_recorded name bytes a b c status h kept = record {
  view = h.view;
  viewed = h.viewed;
  page = h.page;
  shows = h.shows;
  stops = h.stops;
  axis = h.axis;
  table = h.table;
  brought = h.brought;
  written = written_kept a b c _ h.written kept;
}

-- the page of a file was written, and it is out
pub page_ended : {S : Type 0} (program : Program S) (only_recorded : Bool) (file : File) (name seen : List ℕ) (old first new : ConsoleView) (answer : Result ℕ CommandFault) (result : Result ℕ Failure) (given : ℕ)
    → name ≡ string_bytes file.0 → seen ≡ file.1.items
    → IsQuiet old first → IsPaged program only_recorded name seen old.output first.output given
    → IsQuiet first new → Keeps first.output new.output → answer ≡ Ok given → IfOk result (λ status. answer ≡ Ok status)
    → IfOk result (HasPaged program only_recorded file old new)
page_ended program only_recorded file name seen old first new answer (Ok status) given named same_seen quiet paged more kept made is_status =
    let one : given ≡ status = cc in
    let own = paged_kept program only_recorded name seen old.output first.output new.output given paged kept in
    record {
      quiet = quiet_twice old first new quiet more;
      paged = subst (IsPaged program only_recorded (string_bytes file.0) file.1.items old.output new.output) one
          (subst (λ l. IsPaged program only_recorded (string_bytes file.0) l old.output new.output given) same_seen
          (subst (λ n. IsPaged program only_recorded n seen old.output new.output given) named own));
    }
page_ended program only_recorded file name seen old first new answer (Err failure) given named same_seen quiet paged more kept made is_status = tt
