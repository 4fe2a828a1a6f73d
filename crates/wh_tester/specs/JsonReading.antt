-- How the lines of the report as JSON read back.
use Rattle.std.specs.Prelude.{◌≡◌, ◌<◌, ◌^◌, ◌++◌, ℕ, List, codes, decimal, length, Option, Some, None, IfSome}
use Rattle.json.specs.Json.{Json, Members, number, string, object, boolean, no_members, member, document}
use Rattle.wh_workflow.specs.declared.fault.Mismatch.TheVariants.{Different, CommandMissing, CommandExtra}
use Rattle.wh_replay.specs.declared.fault.Fault.{Fault}
use Rattle.wh_replay.specs.declared.fault.Fault.TheVariants as faults
use Rattle.wh_tester.specs.Faults.{replay_fault_text, unregistered}
use Rattle.wh_tester.specs.Report.{shown, event_of, fault_text, good_count}
use Rattle.wh_tester.specs.Json.{json_line, json_totals}
use Rattle.wh_tester.specs.declared.line.Verdict.{Verdict}
use Rattle.wh_tester.specs.declared.line.Verdict.TheVariants as verdicts
use Rattle.wh_tester.specs.declared.line.Line.{Line}

-- the event that a fault of reading is about, before other members
abbrev pub event_json : Option ℕ → Members → Members
event_json None others = others
event_json (Some at) others = member (codes "event") (number (decimal at)) others

-- the event or the task that a fault of replay is about, before other members
abbrev pub subject_json : Fault → Members → Members
subject_json faults.NotATask others = others
subject_json (faults.Place at fault) others = member (codes "event") (number (decimal at)) others
subject_json (faults.Workflow at fault) others = member (codes "task") (number (decimal at)) others
subject_json (faults.Mismatch at (Different event)) others = member (codes "event") (number (decimal event)) others
subject_json (faults.Mismatch at (CommandMissing event)) others = member (codes "event") (number (decimal event)) others
subject_json (faults.Mismatch at (CommandExtra index)) others = member (codes "task") (number (decimal at)) others

-- the members of the verdict that replay has a fault
abbrev pub fault_json : Fault → Members
fault_json fault =
    member (codes "verdict") (string (codes "fault"))
    (subject_json fault (member (codes "fault") (string (replay_fault_text fault)) no_members))

-- the members of a verdict
abbrev pub verdict_json : Verdict → Members
verdict_json (verdicts.Good c) =
    member (codes "verdict") (string (codes "ok"))
    (member (codes "tasks") (number (decimal c.tasks)) (member (codes "live") (boolean c.live) no_members))
verdict_json (verdicts.Unreadable fault) =
    member (codes "verdict") (string (codes "unreadable"))
    (event_json (event_of fault) (member (codes "fault") (string (fault_text fault)) no_members))
verdict_json (verdicts.NoCode kind) = fault_json unregistered
verdict_json (verdicts.Faulty fault) = fault_json fault
verdict_json verdicts.OutOfMemory = member (codes "verdict") (string (codes "out of memory")) no_members

-- the object of a file
abbrev pub line_json : Line → Json
line_json line = object (member (codes "file") (string (shown line.name)) (verdict_json line.verdict))

-- the object of the totals
abbrev pub totals_json : List Line → Json
totals_json lines =
    object
    (member (codes "files") (number (decimal (length lines)))
    (member (codes "ok") (number (decimal (good_count lines))) no_members))

-- the number fits in 64 bits
abbrev pub IsSmall : ℕ → Type 0
IsSmall n = n < 2 ^ 64

-- the number that a fault of replay is about fits in 64 bits
abbrev pub HasSmallSubject : Fault → Type 0
HasSmallSubject faults.NotATask = Unit {0}
HasSmallSubject (faults.Place at fault) = IsSmall at
HasSmallSubject (faults.Workflow at fault) = IsSmall at
HasSmallSubject (faults.Mismatch at (Different event)) = IsSmall event
HasSmallSubject (faults.Mismatch at (CommandMissing event)) = IsSmall event
HasSmallSubject (faults.Mismatch at (CommandExtra index)) = IsSmall at

-- the numbers of a verdict fit in 64 bits, as those that the program holds do
abbrev pub HasSmallNumbers : Verdict → Type 0
HasSmallNumbers (verdicts.Good c) = IsSmall c.tasks
HasSmallNumbers (verdicts.Unreadable fault) = IfSome (event_of fault) IsSmall
HasSmallNumbers (verdicts.NoCode kind) = Unit {0}
HasSmallNumbers (verdicts.Faulty fault) = HasSmallSubject fault
HasSmallNumbers verdicts.OutOfMemory = Unit {0}

-- the line is a text and a line feed, and the text reads as the value
pub record ReadsAs (line : List ℕ) (value : Json) : Type 0 where
  pub text : List ℕ
  pub ends : line ≡ text ++ codes "\n"
  pub reads : document text ≡ Some value

-- the line of a file reads as its object
abbrev pub LinesReadBack : Type 0
LinesReadBack = (line : Line) → HasSmallNumbers line.verdict → ReadsAs (json_line line) (line_json line)

-- the line of the totals reads as their object
abbrev pub TotalsReadBack : Type 0
TotalsReadBack =
    (lines : List Line) → IsSmall (length lines) → IsSmall (good_count lines)
    → ReadsAs (json_totals lines) (totals_json lines)
