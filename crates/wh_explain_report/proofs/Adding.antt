-- The numbers of an overview add up.
use Rattle.std.proofs.Common.{◌≡◌, ℕ, ◌+◌, Bool, cond, List, [], ◌∷◌, length, is_some, Option, Some, None, refl, arith, codes}
use Rattle.std.proofs.lemmas.List.Sums.{sum_by-cons}
use Rattle.std.specs.List.{sum_by}
use Rattle.std.specs.Prelude.{bytes_eq}
use Rattle.wh_view.specs.declared.view.RunStatus.{RunStatus}
use Rattle.wh_view.specs.declared.view.RunStatus.TheVariants.{Running, Completed, Failed, Canceled, Terminated, TimedOut, ContinuedAsNew}
use Rattle.wh_explain_report.specs.Laws.{AddUp, CountsAddUp}
use Rattle.wh_explain_report.specs.RunCounts.{count_of, counted_phrases, phrase_of, run_count}

-- one file more
more : (phrase : List ℕ) (status : Option RunStatus) (statuses : List (Option RunStatus))
    → count_of phrase (status ∷ statuses) ≡ cond (bytes_eq (phrase_of status) phrase) 1 0 + count_of phrase statuses
more phrase status statuses = sum_by-cons (λ s. cond (bytes_eq (phrase_of s) phrase) 1 0) status statuses

more_run : (status : Option RunStatus) (statuses : List (Option RunStatus)) → run_count (status ∷ statuses) ≡ cond (is_some status) 1 0 + run_count statuses
more_run status statuses = sum_by-cons (λ s. cond (is_some s) 1 0) status statuses

-- the runs of each status
statuses_of : List (Option RunStatus) → ℕ
statuses_of statuses = sum_by (λ phrase. count_of phrase statuses) counted_phrases

runs_more : (status : Option RunStatus) (statuses : List (Option RunStatus)) → statuses_of statuses ≡ run_count statuses → statuses_of (status ∷ statuses) ≡ run_count (status ∷ statuses)
unfolding statuses_of
runs_more None statuses all = omega (arith, all, more_run (None) statuses, more (codes "completed") (None) statuses, more (codes "failed") (None) statuses, more (codes "canceled") (None) statuses, more (codes "terminated") (None) statuses, more (codes "timed out") (None) statuses, more (codes "continued as new") (None) statuses, more (codes "running") (None) statuses)
runs_more (Some Completed) statuses all = omega (arith, all, more_run (Some Completed) statuses, more (codes "completed") (Some Completed) statuses, more (codes "failed") (Some Completed) statuses, more (codes "canceled") (Some Completed) statuses, more (codes "terminated") (Some Completed) statuses, more (codes "timed out") (Some Completed) statuses, more (codes "continued as new") (Some Completed) statuses, more (codes "running") (Some Completed) statuses)
runs_more (Some Failed) statuses all = omega (arith, all, more_run (Some Failed) statuses, more (codes "completed") (Some Failed) statuses, more (codes "failed") (Some Failed) statuses, more (codes "canceled") (Some Failed) statuses, more (codes "terminated") (Some Failed) statuses, more (codes "timed out") (Some Failed) statuses, more (codes "continued as new") (Some Failed) statuses, more (codes "running") (Some Failed) statuses)
runs_more (Some Canceled) statuses all = omega (arith, all, more_run (Some Canceled) statuses, more (codes "completed") (Some Canceled) statuses, more (codes "failed") (Some Canceled) statuses, more (codes "canceled") (Some Canceled) statuses, more (codes "terminated") (Some Canceled) statuses, more (codes "timed out") (Some Canceled) statuses, more (codes "continued as new") (Some Canceled) statuses, more (codes "running") (Some Canceled) statuses)
runs_more (Some Terminated) statuses all = omega (arith, all, more_run (Some Terminated) statuses, more (codes "completed") (Some Terminated) statuses, more (codes "failed") (Some Terminated) statuses, more (codes "canceled") (Some Terminated) statuses, more (codes "terminated") (Some Terminated) statuses, more (codes "timed out") (Some Terminated) statuses, more (codes "continued as new") (Some Terminated) statuses, more (codes "running") (Some Terminated) statuses)
runs_more (Some TimedOut) statuses all = omega (arith, all, more_run (Some TimedOut) statuses, more (codes "completed") (Some TimedOut) statuses, more (codes "failed") (Some TimedOut) statuses, more (codes "canceled") (Some TimedOut) statuses, more (codes "terminated") (Some TimedOut) statuses, more (codes "timed out") (Some TimedOut) statuses, more (codes "continued as new") (Some TimedOut) statuses, more (codes "running") (Some TimedOut) statuses)
runs_more (Some ContinuedAsNew) statuses all = omega (arith, all, more_run (Some ContinuedAsNew) statuses, more (codes "completed") (Some ContinuedAsNew) statuses, more (codes "failed") (Some ContinuedAsNew) statuses, more (codes "canceled") (Some ContinuedAsNew) statuses, more (codes "terminated") (Some ContinuedAsNew) statuses, more (codes "timed out") (Some ContinuedAsNew) statuses, more (codes "continued as new") (Some ContinuedAsNew) statuses, more (codes "running") (Some ContinuedAsNew) statuses)
runs_more (Some Running) statuses all = omega (arith, all, more_run (Some Running) statuses, more (codes "completed") (Some Running) statuses, more (codes "failed") (Some Running) statuses, more (codes "canceled") (Some Running) statuses, more (codes "terminated") (Some Running) statuses, more (codes "timed out") (Some Running) statuses, more (codes "continued as new") (Some Running) statuses, more (codes "running") (Some Running) statuses)

runs : (statuses : List (Option RunStatus)) → statuses_of statuses ≡ run_count statuses
unfolding statuses_of
runs [] = refl
runs (status ∷ statuses) = runs_more status statuses (runs statuses)

files_more : (status : Option RunStatus) (statuses : List (Option RunStatus)) → run_count statuses + count_of (codes "unreadable") statuses ≡ length statuses
    → run_count (status ∷ statuses) + count_of (codes "unreadable") (status ∷ statuses) ≡ length (status ∷ statuses)
files_more None statuses all = omega (arith, all, more_run (None) statuses, more (codes "unreadable") (None) statuses)
files_more (Some Completed) statuses all = omega (arith, all, more_run (Some Completed) statuses, more (codes "unreadable") (Some Completed) statuses)
files_more (Some Failed) statuses all = omega (arith, all, more_run (Some Failed) statuses, more (codes "unreadable") (Some Failed) statuses)
files_more (Some Canceled) statuses all = omega (arith, all, more_run (Some Canceled) statuses, more (codes "unreadable") (Some Canceled) statuses)
files_more (Some Terminated) statuses all = omega (arith, all, more_run (Some Terminated) statuses, more (codes "unreadable") (Some Terminated) statuses)
files_more (Some TimedOut) statuses all = omega (arith, all, more_run (Some TimedOut) statuses, more (codes "unreadable") (Some TimedOut) statuses)
files_more (Some ContinuedAsNew) statuses all = omega (arith, all, more_run (Some ContinuedAsNew) statuses, more (codes "unreadable") (Some ContinuedAsNew) statuses)
files_more (Some Running) statuses all = omega (arith, all, more_run (Some Running) statuses, more (codes "unreadable") (Some Running) statuses)

files : (statuses : List (Option RunStatus)) → run_count statuses + count_of (codes "unreadable") statuses ≡ length statuses
files [] = refl
files (status ∷ statuses) = files_more status statuses (files statuses)

pub counts_add_up : CountsAddUp
unfolding statuses_of
counts_add_up statuses = record { runs = runs statuses; files = files statuses }
