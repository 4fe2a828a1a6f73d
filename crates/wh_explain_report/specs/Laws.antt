-- What holds of every text, and of what an overview tells.
use Rattle.std.specs.Prelude.{◌≡◌, ◌&&◌, ◌+◌, ℕ, Bool, List, Option, codes, length, nat_le, true}
use Rattle.std.specs.List.{list_all, sum_by}
use Rattle.wh_tester.specs.Report.{shown}
use Rattle.wh_view.specs.declared.view.RunStatus.{RunStatus}
use Rattle.wh_view.specs.declared.view.ViewedEvent.{ViewedEvent}
use Rattle.wh_explain_report.specs.RunCounts.{count_of, counted_phrases, run_count}
use Rattle.wh_explain_report.specs.RunFacts.{IsHighest, most_attempts}

-- from the space to the tilde
abbrev pub is_printable : ℕ → Bool
is_printable c = nat_le 32 c && nat_le c 126

-- a name is shown without control characters, and without any that is not ASCII
abbrev pub NamesArePrintable : Type 0
NamesArePrintable = (name : List ℕ) → list_all is_printable (shown name) ≡ true

-- the attempts that an overview tells of a run are the highest attempt of an activity of it
abbrev pub AttemptsAreHighest : Type 0
AttemptsAreHighest = (events : List ViewedEvent) → IsHighest events (most_attempts events)

-- the numbers of the runs with each status add up to all runs, and these with the files that have none to all files
pub record AddUp (statuses : List (Option RunStatus)) : Type 0 where
  pub runs : sum_by (λ phrase. count_of phrase statuses) counted_phrases ≡ run_count statuses
  pub files : run_count statuses + count_of (codes "unreadable") statuses ≡ length statuses

-- so they do in each overview
abbrev pub CountsAddUp : Type 0
CountsAddUp = (statuses : List (Option RunStatus)) → AddUp statuses
