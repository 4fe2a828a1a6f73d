-- The report of trials of tables, what is reported beside it, and their status.
use Rattle.std.specs.Prelude.{◌≡◌, ◌==◌, ℕ, List, [], ◌∷◌, ◌++◌, length, count_by, Bool, true, false, not, Option, Some, None, is_some, if◌then◌else◌}
use Rattle.std.specs.List.{flat_map, list_all}
use Rattle.wh_console.specs.Consoles.{ConsoleView, Printed, Reported}
use Rattle.wh_console.specs.declared.format.Format.{Format}
use Rattle.wh_console.specs.declared.format.Format.TheVariants as formats
use Rattle.wh_diagnostics.specs.Diagnostics.{failed_text}
use Rattle.wh_diagnostics.specs.Printing.{status_with}
use Rattle.wh_diagnostics.specs.declared.failures.Failure.{Failure}
use Rattle.wh_table_check.specs.Texts as check
use Rattle.wh_table_commands.specs.declared.trying.TableTrial.{TableTrial}
use Rattle.wh_table_trial.specs.Objects.{trial_as}
use Rattle.wh_table_trial.specs.Trials as trial

-- nothing differs in a trial
abbrev pub is_good : TableTrial → Bool
is_good own = trial.is_good own.own

-- in how many trials nothing differs
abbrev pub good_count : List TableTrial → ℕ
good_count all = count_by is_good all

-- there is one table alone, and it has no scenario
abbrev pub lacks_all : List TableTrial → Bool
lacks_all (only ∷ []) = is_some only.lack
lacks_all _ = false

-- 2 if one table alone has no scenario; else 1 if a run differs, a table has no scenario or files are skipped, and else 0
abbrev pub status_of : (lacks : Bool) → List TableTrial → ℕ
status_of lacks all = if lacks_all all then 2 else status_with lacks (if list_all is_good all then 0 else 1)

-- the parts of the files, in their order
abbrev pub parts_as : Format → List TableTrial → List ℕ
parts_as format all = flat_map (λ own. trial_as format own.name own.own) all

-- the report ends in totals, but as text not for one file alone
abbrev pub has_totals : Format → (files : ℕ) → Bool
has_totals formats.Text files = not (files == 1)
has_totals formats.Json files = true

-- the end of the report: the number of files, and of those in which nothing differs, as `check` has them
abbrev pub end_as : Format → (files good : ℕ) → List ℕ
end_as format files good = if has_totals format files then check.totals_as format files good else []

-- the report: nothing if one table alone has no scenario, and else the parts of the files, and the end
abbrev pub report_as : Format → List TableTrial → List ℕ
report_as format all =
    if lacks_all all then [] else parts_as format all ++ end_as format (length all) (good_count all)

-- the line that says why a table has no scenario, if it has none
abbrev pub lack_line : Option Failure → List ℕ → List ℕ
lack_line None name = []
lack_line (Some failure) name = failed_text failure name

-- the lines that say why tables have no scenario, in their order
abbrev pub lack_lines : List TableTrial → List ℕ → List ℕ
lack_lines all name = flat_map (λ own. lack_line own.lack name) all

-- the report of trials was written, then why tables have no scenario was reported, and this is the status
pub record HasReported (all : List TableTrial) (format : Format) (lacks : Bool) (old new : ConsoleView) (status : ℕ)
    : Type 0 where
  pub between : ConsoleView
  pub printed : Printed old between (report_as format all)
  pub reported : Reported between new (lack_lines all)
  pub ends : status ≡ status_of lacks all
