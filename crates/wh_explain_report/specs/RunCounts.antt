-- How many runs of an overview of histories have each status.
use Rattle.std.specs.Prelude.{ℕ, ◌==◌, List, [], ◌∷◌, ◌++◌, codes, decimal, Bool, bytes_eq, count_by, is_some, Option, Some, None, if◌then◌else◌}
use Rattle.wh_view.specs.declared.view.RunStatus.{RunStatus}
use Rattle.wh_explain_report.specs.RunFacts.{status_phrase}

-- the status of a run in words, or that a file has no run that can be told
abbrev pub phrase_of : Option RunStatus → List ℕ
phrase_of None = codes "unreadable"
phrase_of (Some status) = status_phrase status

-- how many of the files are told by the phrase
abbrev pub count_of : (phrase : List ℕ) → List (Option RunStatus) → ℕ
count_of phrase statuses = count_by (λ status. bytes_eq (phrase_of status) phrase) statuses

-- how many runs there are
abbrev pub run_count : List (Option RunStatus) → ℕ
run_count statuses = count_by is_some statuses

-- so many runs after a separator; nothing if there are none
abbrev pub count_text : (separator : List ℕ) → ℕ → (phrase : List ℕ) → List ℕ
count_text separator count phrase =
    if count == 0 then [] else separator ++ (decimal count ++ (codes " " ++ phrase))

-- what separates the next number: a comma once one is written
abbrev pub separator_after : (separator : List ℕ) → ℕ → List ℕ
separator_after separator count = if count == 0 then separator else codes ", "

-- the number of the runs that each phrase tells, the first one after the separator, if there are some
abbrev pub counts_text : (separator : List ℕ) → (phrases : List (List ℕ)) → List (Option RunStatus) → List ℕ
counts_text separator [] statuses = []
counts_text separator (phrase ∷ phrases) statuses =
    count_text separator (count_of phrase statuses) phrase
    ++ counts_text (separator_after separator (count_of phrase statuses)) phrases statuses

-- the statuses, in the order in which they are counted
abbrev pub counted_phrases : List (List ℕ)
counted_phrases =
    codes "completed" ∷ codes "failed" ∷ codes "canceled" ∷ codes "terminated" ∷ codes "timed out"
    ∷ codes "continued as new" ∷ codes "running" ∷ []

-- how many files have no run that can be told, if some have none, and the end of the line
abbrev pub unreadable_text : List (Option RunStatus) → List ℕ
unreadable_text statuses =
    count_text (codes "; ") (count_of (codes "unreadable") statuses) (codes "unreadable") ++ 10 ∷ []

-- `4 runs: 2 completed, 1 failed, 1 running`, and `; 1 unreadable` behind it if a file has no run that can be told
unfoldable pub counts_line : List (Option RunStatus) → List ℕ
counts_line statuses =
    (decimal (run_count statuses) ++ codes " runs")
    ++ (counts_text (codes ": ") counted_phrases statuses ++ unreadable_text statuses)

-- how many of the files are told by the phrase, as a further member of an object
abbrev pub count_member : (key phrase : List ℕ) → List (Option RunStatus) → List ℕ
count_member key phrase statuses = codes ",\"" ++ (key ++ (codes "\":" ++ decimal (count_of phrase statuses)))

-- how many runs were closed for good
abbrev pub closed_members : List (Option RunStatus) → List ℕ
closed_members statuses =
    count_member (codes "completed") (codes "completed") statuses
    ++ (count_member (codes "failed") (codes "failed") statuses
    ++ (count_member (codes "canceled") (codes "canceled") statuses
    ++ (count_member (codes "terminated") (codes "terminated") statuses
    ++ count_member (codes "timedOut") (codes "timed out") statuses)))

-- how many go on, and how many files have no run that can be told
abbrev pub other_members : List (Option RunStatus) → List ℕ
other_members statuses =
    count_member (codes "continuedAsNew") (codes "continued as new") statuses
    ++ (count_member (codes "running") (codes "running") statuses
    ++ count_member (codes "unreadable") (codes "unreadable") statuses)

-- all these numbers as an object, also those that are 0
unfoldable pub counts_object : List (Option RunStatus) → List ℕ
counts_object statuses =
    codes "{\"runs\":" ++ (decimal (run_count statuses)
    ++ (closed_members statuses ++ (other_members statuses ++ codes "}\n")))
