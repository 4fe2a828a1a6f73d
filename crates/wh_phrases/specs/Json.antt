-- Jobs, commands, events and differences as members of JSON.
use Rattle.std.specs.Prelude.{ℕ, List, [], ◌∷◌, ◌++◌, codes, decimal, Option, Some, None}
use Rattle.std.specs.Fmt.{signed_decimal}
use Rattle.wh_events.specs.declared.kind.EventKind.{EventKind}
use Rattle.wh_events.specs.declared.kind.EventKind.TheVariants as kinds
use Rattle.wh_events.specs.declared.phrase.Detail.{Detail}
use Rattle.wh_events.specs.declared.phrase.Detail.TheVariants.{Nothing, Time, Seconds, Version, Range}
use Rattle.wh_events.specs.Phrases.{Phrase}
use Rattle.wh_workflow.specs.declared.command.Command.{Command}
use Rattle.wh_workflow.specs.declared.command.Command.TheVariants as commands
use Rattle.wh_workflow.specs.declared.job.Job.{Job}
use Rattle.wh_workflow.specs.declared.job.Job.TheVariants as jobs
use Rattle.wh_workflow.specs.Jobs.{job_phrase}
use Rattle.wh_workflow.specs.Names.{command_phrase}
use Rattle.wh_tester.specs.Report.{shown}
use Rattle.wh_tester.specs.Json.{escaped, object, text_member, verdict_members}
use Rattle.wh_tester.specs.declared.line.Line.{Line}
use Rattle.wh_explained_tasks.specs.declared.RecordedEvent.{RecordedEvent}
use Rattle.wh_explained_tasks.specs.declared.Pairing.{Pairing}
use Rattle.wh_explained_tasks.specs.declared.Pairing.TheVariants.{Alike, Different, CommandMissing, CommandExtra}
use Rattle.wh_phrases.specs.Phrases.{event_phrase}
use Rattle.wh_phrases.specs.Times.{time_text}

-- ---- the keys, in Temporal's words

-- the keys of the two words of a phrase: of its id, and of its type, its signal or its end
pub record Keys : Type 0 where
  pub id : List ℕ
  pub name : List ℕ

-- these two keys; the second is empty if a phrase has one word, and both are empty if it has none
abbrev pub keyed : List ℕ → List ℕ → Keys
keyed id name = record { id = id; name = name }

-- the keys of a job
abbrev pub job_keys : Job → Keys
job_keys (jobs.Time _) = keyed [] []
job_keys (jobs.Start _ _) = keyed (codes "workflowType") []
job_keys (jobs.Signal _ _) = keyed (codes "signalName") []
job_keys jobs.CancelRequested = keyed [] []
job_keys (jobs.Activity _ _) = keyed (codes "activityId") (codes "status")
job_keys (jobs.TimerFired _) = keyed (codes "timerId") []
job_keys (jobs.ChildStarted _) = keyed (codes "workflowId") []
job_keys (jobs.Child _ _) = keyed (codes "workflowId") (codes "status")
job_keys (jobs.CancelSent _) = keyed (codes "workflowId") []
job_keys (jobs.CancelFailed _) = keyed (codes "workflowId") []
job_keys (jobs.SignalSent _ _) = keyed (codes "workflowId") (codes "signalName")
job_keys (jobs.SignalFailed _ _) = keyed (codes "workflowId") (codes "signalName")
job_keys (jobs.Version _ _) = keyed (codes "changeId") []

-- the keys of a command
abbrev pub command_keys : Command → Keys
command_keys (commands.StartActivity _ _ _) = keyed (codes "activityId") (codes "activityType")
command_keys (commands.CancelActivity _) = keyed (codes "activityId") []
command_keys (commands.StartTimer _ _) = keyed (codes "timerId") []
command_keys (commands.CancelTimer _) = keyed (codes "timerId") []
command_keys (commands.StartChild _ _ _) = keyed (codes "workflowId") (codes "workflowType")
command_keys (commands.CancelChild _) = keyed (codes "workflowId") []
command_keys (commands.SignalExternal _ _ _) = keyed (codes "workflowId") (codes "signalName")
command_keys (commands.Ask _ _ _) = keyed (codes "changeId") []
command_keys (commands.Marker _ _) = keyed (codes "changeId") []
command_keys (commands.Complete _) = keyed [] []
command_keys (commands.Fail _) = keyed (codes "message") []
command_keys commands.Cancel = keyed [] []
command_keys (commands.ContinueAsNew _ _) = keyed (codes "workflowType") []

-- the keys of an event that records a command
abbrev pub kind_keys : EventKind → Keys
kind_keys (kinds.ActivityTaskScheduled _ _) = keyed (codes "activityId") (codes "activityType")
kind_keys (kinds.ActivityTaskCancelRequested _) = keyed (codes "activityId") []
kind_keys (kinds.TimerStarted _) = keyed (codes "timerId") []
kind_keys (kinds.TimerCanceled _) = keyed (codes "timerId") []
kind_keys (kinds.StartChildWorkflowExecutionInitiated _ _) = keyed (codes "workflowId") (codes "workflowType")
kind_keys (kinds.RequestCancelExternalWorkflowExecutionInitiated _) = keyed (codes "workflowId") []
kind_keys (kinds.SignalExternalWorkflowExecutionInitiated _ _) = keyed (codes "workflowId") (codes "signalName")
kind_keys (kinds.MarkerRecorded _ _) = keyed (codes "changeId") []
kind_keys _ = keyed [] []

-- ---- phrases

-- a word, if there is one, as a further member of an object, shown as names in reports are
abbrev pub word_member : List ℕ → Option (List ℕ) → List ℕ
word_member key None = []
word_member key (Some word) = codes "," ++ text_member key (shown word)

-- what follows the ids and types of a phrase, as further members of an object
abbrev pub detail_members : Detail → List ℕ
detail_members Nothing = []
detail_members (Time time) = codes ",\"time\":\"" ++ (time_text time ++ codes "\"")
detail_members (Seconds seconds) = codes ",\"seconds\":" ++ decimal seconds
detail_members (Version version) = codes ",\"version\":" ++ signed_decimal version
detail_members (Range min max) =
    codes ",\"min\":" ++ (signed_decimal min ++ (codes ",\"max\":" ++ signed_decimal max))

-- the kind of a phrase as a string, and the members of its words and of what follows them
abbrev pub phrase_json : Keys → Phrase → List ℕ
phrase_json keys phrase =
    codes "\"" ++ (escaped (shown phrase.kind) ++ (codes "\""
    ++ (word_member keys.id phrase.id ++ (word_member keys.name phrase.name ++ detail_members phrase.detail))))

-- the phrase of a job
abbrev pub job_json : Job → List ℕ
job_json job = phrase_json (job_keys job) (job_phrase job)

-- the phrase of a command
abbrev pub command_json : Command → List ℕ
command_json command = phrase_json (command_keys command) (command_phrase command)

-- the phrase of a recorded event
abbrev pub event_json : RecordedEvent → List ℕ
event_json event = phrase_json (kind_keys event.kind) (event_phrase event)

-- ---- differences

-- `"recorded":{"event":NUMBER,"type":EVENT}`
abbrev pub recorded_member : RecordedEvent → List ℕ
recorded_member event =
    codes "\"recorded\":{\"event\":" ++ (decimal event.number
    ++ (codes ",\"type\":" ++ (event_json event ++ codes "}")))

-- `"sends":COMMAND`
abbrev pub sends_member : Command → List ℕ
sends_member command = codes "\"sends\":" ++ command_json command

-- the command that is sent and the event that is recorded
abbrev pub both_members : Command → RecordedEvent → List ℕ
both_members command event = sends_member command ++ (codes "," ++ recorded_member event)

-- the command and the event of a pairing; `null` stands for the one that is missing
abbrev pub pairing_members : Pairing → List ℕ
pairing_members (Alike command event) = both_members command event
pairing_members (Different command event) = both_members command event
pairing_members (CommandMissing event) = codes "\"sends\":null," ++ recorded_member event
pairing_members (CommandExtra command) = sends_member command ++ codes ",\"recorded\":null"

-- the members of a difference: the command that is sent and the event that is recorded
abbrev pub difference_members : Option Pairing → List (List ℕ)
difference_members None = []
difference_members (Some pairing) = pairing_members pairing ∷ []

-- the object of a file: its name, shown as in the text of the report, its verdict, and further members
abbrev pub json_line_with : Line → List (List ℕ) → List ℕ
json_line_with line more =
    object (text_member (codes "file") (shown line.name)) (verdict_members line.verdict ++ more)
