-- The line of a run in an overview of histories.
use Rattle.std.specs.Prelude.{ℕ, List, [], ◌∷◌, ◌++◌, codes, decimal, nat_lt, Option, Some, None, if◌then◌else◌}
use Rattle.wh_tester.specs.Report.{shown}
use Rattle.wh_view.specs.Runs.{closing_in, status_of}
use Rattle.wh_view.specs.declared.view.View.{View}
use Rattle.wh_view_report.specs.Cut.{cut}
use Rattle.wh_view_report.specs.Run.{run_span}
use Rattle.wh_html.specs.Times.{span_text}
use Rattle.wh_explain_report.specs.RunFacts.{cause_message, cause_type, most_attempts, start_moment, start_type, status_phrase}

-- a text between two others; nothing if it is empty
abbrev pub fact : (before : List ℕ) → List ℕ → (after : List ℕ) → List ℕ
fact before [] after = []
fact before (c ∷ cs) after = before ++ (cut (c ∷ cs) ++ after)

-- the workflow type and the workflow id of a run, and its status
abbrev pub head_text : View → List ℕ
head_text view =
    fact [] (start_type view.events) (codes ", ")
    ++ (fact (codes "workflow id ") view.run.workflow_id (codes ", ") ++ status_phrase (status_of view.events))

-- how long a run took, if it is closed and that is known
abbrev pub lasted_text : Option ℕ → List ℕ
lasted_text None = []
lasted_text (Some millis) = codes ", lasted " ++ span_text millis

-- when a run started, and how long it took
abbrev pub times_text : View → List ℕ
times_text view = fact (codes ", started ") (start_moment view.events) [] ++ lasted_text (run_span view)

-- the highest attempt, if that is not the first
abbrev pub attempts_text : ℕ → List ℕ
attempts_text attempts = if nat_lt 1 attempts then codes ", " ++ (decimal attempts ++ codes " attempts") else []

-- a cause by its type, if it has one, and its message
abbrev pub because_by : (kind message : List ℕ) → List ℕ
because_by [] message = fact (codes ", because ") message []
because_by (c ∷ cs) message = codes ", because " ++ (cut (c ∷ cs) ++ fact (codes ": ") message [])

-- why a run was closed, if that is told
abbrev pub because_text : View → List ℕ
because_text view = because_by (cause_type (closing_in view.events)) (cause_message (closing_in view.events))

-- what is told of a run behind its status
abbrev pub tail_text : View → List ℕ
tail_text view = times_text view ++ (attempts_text (most_attempts view.events) ++ because_text view)

-- the line of the run in the file of this name
unfoldable pub run_line : (name : List ℕ) → View → List ℕ
run_line name view = shown name ++ (codes ": " ++ (head_text view ++ (tail_text view ++ 10 ∷ [])))
