-- The facts that a page states of a run above its picture, and the notes below.
use Rattle.std.specs.Prelude.{Option, Some, None, ℕ, Bool, ◌-◌, ◌==◌, not, count_by, get_or, length, slice_get, if◌then◌else◌, List, [], ◌∷◌, ◌++◌, codes, decimal}
use Rattle.wh_html.specs.Times.{stamp_text, span_text}
use Rattle.wh_html.specs.declared.page.Fact.{Fact}
use Rattle.wh_html.specs.declared.page.Moment.{Moment}
use Rattle.wh_view.specs.Runs.{closing_in, status_of}
use Rattle.wh_view.specs.declared.view.View.{View}
use Rattle.wh_view.specs.declared.view.ViewedEvent.{ViewedEvent}
use Rattle.wh_run_page.specs.Moments.{moment_of}
use Rattle.wh_view_report.specs.Run.{status_word}
use Rattle.wh_view_report.specs.Texts.{completed_count, workflow_type}
use Rattle.wh_view_report.specs.Words.{mark_words}

-- a fact
abbrev pub fact : List ℕ → List ℕ → Fact
fact name value = record { name = name; value = value }

-- the last of the times; 0 if there is none
abbrev pub last_time : List ℕ → ℕ
last_time times = get_or times (length times - 1) 0

-- when a run started, as text
abbrev pub started : List ℕ → List ℕ
started times = stamp_text (get_or times 0 0)

-- how long it lasted, as text
abbrev pub lasted : List ℕ → List ℕ
lasted times = span_text (last_time times - get_or times 0 0)

-- a name of a run, or that it is not recorded
abbrev pub name_text : List ℕ → List ℕ
name_text [] = codes "not recorded"
name_text (c ∷ cs) = c ∷ cs

-- the workflow id of the parent, or that there is none
abbrev pub parent_text : List ℕ → List ℕ
parent_text [] = codes "no parent"
parent_text (c ∷ cs) = c ∷ cs

-- the event that closes a run, and when
abbrev pub closing_at : Moment → List ℕ
closing_at moment = codes " by event " ++ (decimal moment.event ++ (codes ", " ++ stamp_text moment.millis))

abbrev pub closing_words : List ℕ → Option ViewedEvent → List ℕ
closing_words times None = []
closing_words times (Some event) = closing_at (moment_of times event)

-- whether a run is open, or how it was closed
abbrev pub status_text : View → List ℕ → List ℕ
status_text view times = status_word (status_of view.events) ++ closing_words times (closing_in view.events)

-- the run in which the workflow goes on
abbrev pub next_run : Option ViewedEvent → List ℕ
next_run None = []
next_run (Some event) = event.details.ending.next_run_id

-- a fact, if its value is not empty
abbrev pub fact_if : List ℕ → List ℕ → List Fact
fact_if name [] = []
fact_if name (c ∷ cs) = fact name (c ∷ cs) ∷ []

-- the facts that each run has
unfoldable pub main_facts : View → List ℕ → List Fact
main_facts view times =
    fact (codes "Workflow type") (workflow_type (slice_get view.events 0))
    ∷ fact (codes "Workflow id") (name_text view.run.workflow_id)
    ∷ fact (codes "Run id") (name_text view.run.run_id)
    ∷ fact (codes "Task Queue") (name_text view.run.task_queue)
    ∷ fact (codes "Parent") (parent_text view.run.parent_workflow_id)
    ∷ fact (codes "Status") (status_text view times)
    ∷ fact (codes "Started") (started times)
    ∷ fact (codes "Lasted") (lasted times)
    ∷ fact (codes "Events") (decimal (length view.events))
    ∷ fact (codes "Tasks completed") (decimal (completed_count view.events))
    ∷ []

-- the facts of a run: those that each has, and the runs before and after it
unfoldable pub facts_of : View → List ℕ → List Fact
facts_of view times =
    (main_facts view times ++ fact_if (codes "Goes on from run") view.run.previous_run_id)
    ++ fact_if (codes "Goes on in run") (next_run (closing_in view.events))

-- a text is empty
abbrev pub is_empty : List ℕ → Bool
is_empty text = length text == 0

-- how many events have something wrong with them
abbrev pub marked_count : View → ℕ
marked_count view = count_by (λ event. not (is_empty (mark_words view event))) view.events

-- the note on how many events have something wrong with them, if some have
abbrev pub marked_note : ℕ → Option (List ℕ)
marked_note count =
    if count == 0 then None
    else Some (codes "Events that are not as a worker expects them: "
    ++ (decimal count ++ codes ". The lines of their tasks say why."))

-- a note, if there is one
abbrev pub note_items : Option (List ℕ) → List (List ℕ)
note_items None = []
note_items (Some note) = note ∷ []

-- what else a reader has to know, after a note on the verdict
abbrev pub notes_of : View → Option (List ℕ) → List (List ℕ)
notes_of view note = note_items note ++ note_items (marked_note (marked_count view))
