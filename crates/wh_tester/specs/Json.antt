-- The report as JSON: an object for each file, then one with the totals, each on a line of its own.
use Rattle.std.specs.Prelude.{ℕ, ◌==◌, ◌||◌, List, [], ◌∷◌, ◌++◌, length, codes, decimal, Option, Some, None, if◌then◌else◌}
use Rattle.std.specs.List.{flat_map}
use Rattle.wh_workflow.specs.declared.fault.Mismatch.{Mismatch}
use Rattle.wh_workflow.specs.declared.fault.Mismatch.TheVariants.{Different, CommandMissing, CommandExtra}
use Rattle.wh_replay.specs.declared.fault.Fault.{Fault}
use Rattle.wh_replay.specs.declared.fault.Fault.TheVariants as faults
use Rattle.wh_tester.specs.Faults.{replay_fault_text, unregistered}
use Rattle.wh_tester.specs.Report.{shown, event_of, fault_text, good_count}
use Rattle.wh_tester.specs.declared.line.Verdict.{Verdict}
use Rattle.wh_tester.specs.declared.line.Verdict.TheVariants as verdicts
use Rattle.wh_tester.specs.declared.line.Line.{Line}

-- a character in a string of JSON: `"` and `\` come after a `\`
abbrev pub escaped_char : ℕ → List ℕ
escaped_char c = if c == 34 || c == 92 then 92 ∷ c ∷ [] else c ∷ []

-- a text between the quotes of a string of JSON
abbrev pub escaped : List ℕ → List ℕ
escaped text = flat_map escaped_char text

-- a member with a string: `"KEY":"TEXT"`
abbrev pub text_member : List ℕ → List ℕ → List ℕ
text_member key text = codes "\"" ++ (key ++ (codes "\":\"" ++ (escaped text ++ codes "\"")))

-- a member with a number, `true` or `false`: `"KEY":VALUE`
abbrev pub plain_member : List ℕ → List ℕ → List ℕ
plain_member key value = codes "\"" ++ (key ++ (codes "\":" ++ value))

-- members after another one, a comma in front of each
abbrev pub following : List (List ℕ) → List ℕ
following members = flat_map (λ member. codes "," ++ member) members

-- an object of a member and those that follow it, on a line
abbrev pub object : List ℕ → List (List ℕ) → List ℕ
object first others = codes "{" ++ (first ++ (following others ++ codes "}\n"))

-- the event that a fault of reading is about
abbrev pub event_members : Option ℕ → List (List ℕ)
event_members None = []
event_members (Some at) = plain_member (codes "event") (decimal at) ∷ []

-- the event that a difference is about, or else the task, which is at `at`
abbrev pub mismatch_members : ℕ → Mismatch → List (List ℕ)
mismatch_members at (Different event) = plain_member (codes "event") (decimal event) ∷ []
mismatch_members at (CommandMissing event) = plain_member (codes "event") (decimal event) ∷ []
mismatch_members at (CommandExtra index) = plain_member (codes "task") (decimal at) ∷ []

-- the event or the task that a fault of replay is about
abbrev pub subject_members : Fault → List (List ℕ)
subject_members faults.NotATask = []
subject_members (faults.Place at fault) = plain_member (codes "event") (decimal at) ∷ []
subject_members (faults.Workflow at fault) = plain_member (codes "task") (decimal at) ∷ []
subject_members (faults.Mismatch at mismatch) = mismatch_members at mismatch

-- the members of the verdict that replay has a fault
abbrev pub fault_members : Fault → List (List ℕ)
fault_members fault =
    text_member (codes "verdict") (codes "fault")
    ∷ (subject_members fault ++ text_member (codes "fault") (replay_fault_text fault) ∷ [])

-- the members of a verdict, with the text that a fault has in the report in words
abbrev pub verdict_members : Verdict → List (List ℕ)
verdict_members (verdicts.Good c) =
    text_member (codes "verdict") (codes "ok")
    ∷ plain_member (codes "tasks") (decimal c.tasks)
    ∷ plain_member (codes "live") (if c.live then codes "true" else codes "false")
    ∷ []
verdict_members (verdicts.Unreadable fault) =
    text_member (codes "verdict") (codes "unreadable")
    ∷ (event_members (event_of fault) ++ text_member (codes "fault") (fault_text fault) ∷ [])
verdict_members (verdicts.NoCode kind) = fault_members unregistered
verdict_members (verdicts.Faulty fault) = fault_members fault
verdict_members verdicts.OutOfMemory = text_member (codes "verdict") (codes "out of memory") ∷ []

-- the whole line of a file
abbrev pub json_line : Line → List ℕ
json_line line = object (text_member (codes "file") (shown line.name)) (verdict_members line.verdict)

-- the line of a file without its end, so that members can follow
abbrev pub open_line : Line → List ℕ
open_line line = codes "{" ++ (text_member (codes "file") (shown line.name) ++ following (verdict_members line.verdict))

-- the line of the totals, with the number of files and of good ones
abbrev pub totals_object : (files good : ℕ) → List ℕ
totals_object files good =
    object (plain_member (codes "files") (decimal files)) (plain_member (codes "ok") (decimal good) ∷ [])

-- the line of the totals of these lines
abbrev pub json_totals : List Line → List ℕ
json_totals lines = totals_object (length lines) (good_count lines)
