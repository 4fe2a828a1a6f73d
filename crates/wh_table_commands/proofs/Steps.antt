-- What the commands of tables wrote, one step after another.
use Rattle.std.proofs.Common.{◌≡◌, ℕ, List, [], ◌∷◌, ◌++◌, append-nil, refl, subst}
use Rattle.std.proofs.KnownBytes.{Appends-nil}
use Rattle.std.proofs.lemmas.Grind.{flat_map-append}
use Rattle.std.specs.Prelude.{Option, Result, Ok, Err, IfOk}
use Rattle.wh_console.specs.Consoles.{ConsoleView, Reported}
use Rattle.wh_console.specs.declared.files.Input.{Input}
use Rattle.wh_diagnostics.proofs.Telling.{reported_as, reported_both}
use Rattle.wh_diagnostics.specs.Printing.{HasPrinted}
use Rattle.wh_diagnostics.specs.Readings.{Gives}
use Rattle.wh_diagnostics.specs.declared.failures.Failure.{Failure}
use Rattle.wh_file_faults.specs.Faults.{File}
use Rattle.wh_html.specs.Html.{bytes}
use Rattle.wh_table_check.specs.Checks.{status_of as check_status}
use Rattle.wh_table_commands.specs.declared.files.TableFile.{TableFile}
use Rattle.wh_table_commands.specs.declared.trying.TableTrial.{TableTrial}
use Rattle.wh_table_commands.specs.Files.{IsTableOf, table_of}
use Rattle.wh_table_commands.specs.Pictures.{IsDrawingOf, HasDrawn}
use Rattle.wh_table_commands.specs.Scenarios.{IsInputBeside}
use Rattle.wh_table_commands.specs.TrialReports.{lack_line, lack_lines}
use Rattle.wh_table_commands.specs.Trials.{IsTrialOf, IsTried}
use Rattle.wh_table_picture.specs.Pages.{page_html}
use Rattle.wh_table_picture.specs.declared.drawing.Drawing.{Drawing}

-- the page of a table was printed
pub table_drawn : (file : File) (table : TableFile) (drawing : Drawing) (old new : ConsoleView) (result : Result ℕ Failure)
    → table ≡ table_of file → IsDrawingOf table drawing
    → IfOk result (HasPrinted (bytes (page_html drawing)) (check_status (drawing.checked ∷ [])) old new)
    → IfOk result (HasDrawn file old new)
table_drawn file table drawing old new (Ok status) same drawn printed =
    record { drawing = drawing; drawn = subst (λ t. IsDrawingOf t drawing) same drawn; printed = printed }
table_drawn file table drawing old new (Err failure) same drawn printed = tt

-- no table lacks a scenario
pub nothing_lacking : (a : ConsoleView) → Reported a a (lack_lines [])
nothing_lacking a = record { named = refl; output = refl; closed = refl; told = λ whole. (whole, Appends-nil a.errors) }

-- why one table more lacks its scenario was reported
pub one_lacking : (a b c : ConsoleView) (front : List TableTrial) (own : TableTrial)
    → Reported a b (lack_lines front) → Reported b c (lack_line own.lack) → Reported a c (lack_lines (front ++ own ∷ []))
one_lacking a b c front own before after =
    let line : TableTrial → List ℕ = λ one. lack_line one.lack a.name in
    let same : lack_lines front a.name ++ line own ≡ lack_lines (front ++ own ∷ []) a.name = rw (flat_map-append line front (own ∷ []), append-nil (line own)) refl in
    reported_as a c (λ name. lack_lines front name ++ lack_line own.lack name) (lack_lines (front ++ own ∷ [])) same
    (reported_both a b c (lack_lines front) (lack_line own.lack) before after)

-- an input was tried
pub input_tried : (gives : Gives) (given : Option (List ℕ)) (input beside : Input) (file : TableFile) (result : Result TableTrial Failure)
    → IsTableOf gives input file → IsInputBeside input beside → IfOk result (IsTrialOf gives given file beside)
    → IfOk result (IsTried gives given input)
input_tried gives given input beside file (Ok own) read is_beside tried =
    record { file = file; read = read; beside = beside; is_beside = is_beside; tried = tried }
input_tried gives given input beside file (Err failure) read is_beside tried = tt
