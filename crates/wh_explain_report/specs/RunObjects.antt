-- The object of a run in an overview of histories as JSON.
use Rattle.std.specs.Prelude.{ℕ, ◌==◌, List, [], ◌∷◌, ◌++◌, codes, decimal, if◌then◌else◌}
use Rattle.wh_tester.specs.Json.{escaped}
use Rattle.wh_tester.specs.Report.{shown}
use Rattle.wh_view.specs.Runs.{closing_in, status_of}
use Rattle.wh_view.specs.declared.view.View.{View}
use Rattle.wh_view_json.specs.Texts.{seconds_member, text_member}
use Rattle.wh_view_report.specs.Run.{run_span, status_word}
use Rattle.wh_explain_report.specs.RunFacts.{cause_message, cause_type, most_attempts, start_moment, start_type}

-- the names of a run
abbrev pub name_members : View → List ℕ
name_members view =
    text_member (codes "type") (start_type view.events)
    ++ (text_member (codes "workflowId") view.run.workflow_id ++ text_member (codes "runId") view.run.run_id)

-- when a run started, and how long it took
abbrev pub time_members : View → List ℕ
time_members view =
    text_member (codes "started") (start_moment view.events) ++ seconds_member (codes "seconds") (run_span view)

-- whether a run is open, or how it was closed, and its times
abbrev pub status_members : View → List ℕ
status_members view = codes ",\"status\":\"" ++ (status_word (status_of view.events) ++ (codes "\"" ++ time_members view))

-- the highest attempt, if an activity was started
abbrev pub attempts_member : ℕ → List ℕ
attempts_member attempts = if attempts == 0 then [] else codes ",\"attempts\":" ++ decimal attempts

-- the highest attempt, and why a run was closed
abbrev pub end_members : View → List ℕ
end_members view =
    attempts_member (most_attempts view.events)
    ++ (text_member (codes "cause") (cause_message (closing_in view.events))
    ++ text_member (codes "causeType") (cause_type (closing_in view.events)))

-- the object of the run in the file of this name
unfoldable pub run_object : (name : List ℕ) → View → List ℕ
run_object name view =
    codes "{\"file\":\"" ++ (escaped (shown name) ++ (codes "\"" ++ (name_members view
    ++ (status_members view ++ (end_members view ++ codes "}\n")))))
