-- A written command is read back, and no two commands are written alike.
use Rattle.std.specs.Prelude.{◌≡◌, ◌≢◌, ◌≤◌, ℕ, List, [], ◌∷◌, length, codes, nat_lt, Option, Some, None, option_map, Ok, bytes_eq, if◌then◌else◌, IsUtf8, ⊤}
use Rattle.std.specs.Result.{result_ok}
use Rattle.std.specs.Char.{digit_value}
use Rattle.std.specs.Str.Parse.{digits_value}
use Rattle.base64.specs.GeneralPurpose.{IsBytes}
use Rattle.serde_json.specs.Data.{Data}
use Rattle.serde_json.specs.Find.{get, as_str}
use Rattle.wh_events.specs.declared.event.Event.{Event}
use Rattle.wh_events.specs.declared.event.Payload.{Payload}
use Rattle.wh_events.specs.InPlace.{InPlace}
use Rattle.wh_events.specs.Places.{most_events}
use Rattle.wh_json.specs.Markers.{as_version, version_mark}
use Rattle.wh_json.specs.Payloads.{payloads_at}
use Rattle.wh_workflow.specs.declared.command.Command.{Command}
use Rattle.wh_workflow.specs.declared.command.Command.TheVariants as commands
use Rattle.wh_workflow.specs.Jobs.{id_at}
use Rattle.wh_policies.specs.declared.policies.Policies.{Policies}
use Rattle.wh_commands.specs.declared.names.WorkerNames.{WorkerNames}
use Rattle.wh_commands.specs.CarryingOver.{Carried}
use Rattle.wh_commands.specs.Commands.{written}
use Rattle.wh_commands.specs.Options.{◌>>=◌}

-- ---- Parts

abbrev pub text_at : List ℕ → Data → Option (List ℕ)
text_at name d = get name d >>= as_str

-- the value as a text, empty if it is missing
abbrev pub text_or_empty : Option Data → Option (List ℕ)
text_or_empty None = Some []
text_or_empty (Some d) = as_str d

-- the number of a text of digits
abbrev pub number_at : List ℕ → Data → Option ℕ
number_at name d = option_map (digits_value 10) (text_at name d)

-- the digits that a text begins with
abbrev pub leading_digits : List ℕ → List ℕ
leading_digits [] = []
leading_digits (c ∷ cs) = if nat_lt (digit_value c) 10 then c ∷ leading_digits cs else []

-- the whole seconds of a duration
unfoldable pub seconds_of : List ℕ → ℕ
seconds_of text = digits_value 10 (leading_digits text)

-- the name of a type
abbrev pub name_at : List ℕ → Data → Option (List ℕ)
name_at name d = get name d >>= text_at (codes "name")

-- payloads, by the reader of histories
abbrev pub payloads_of : List ℕ → Data → Option (List Payload)
payloads_of name d = result_ok (payloads_at 0 (get name d))

-- ---- Commands

-- how the commands of a type are read
pub record Reader : Type 0 where
  pub kind : List ℕ
  -- the name of their attributes
  pub attributes : List ℕ
  pub read : Data → Option Command

abbrev pub start_activity_in : Data → Option Command
start_activity_in d = do
  id ← text_at (codes "activityId") d
  activity ← name_at (codes "activityType") d
  option_map (commands.StartActivity id activity) (payloads_of (codes "input") d)

abbrev pub start_timer_in : Data → Option Command
start_timer_in d = do
  id ← text_at (codes "timerId") d
  timeout ← text_at (codes "startToFireTimeout") d
  Some (commands.StartTimer id (seconds_of timeout))

abbrev pub start_child_in : Data → Option Command
start_child_in d = do
  workflow_id ← text_at (codes "workflowId") d
  workflow ← name_at (codes "workflowType") d
  option_map (commands.StartChild workflow_id workflow) (payloads_of (codes "input") d)

abbrev pub signal_external_in : Data → Option Command
signal_external_in d = do
  execution ← get (codes "execution") d
  workflow_id ← text_at (codes "workflowId") execution
  signal ← text_at (codes "signalName") d
  option_map (commands.SignalExternal workflow_id signal) (payloads_of (codes "input") d)

-- the command as which the reader of histories reads a recorded marker
abbrev pub marker_in : Data → Option Command
marker_in d = do
  name ← text_at (codes "markerName") d
  option_map (λ mark. commands.Marker mark.0 mark.1) (result_ok (version_mark 0 name (Some d)))

abbrev pub fail_in : Data → Option Command
fail_in d = do
  failure ← get (codes "failure") d
  message ← text_at (codes "message") failure
  Some (commands.Fail message)

abbrev pub continue_as_new_in : Data → Option Command
continue_as_new_in d = do
  workflow ← name_at (codes "workflowType") d
  option_map (commands.ContinueAsNew workflow) (payloads_of (codes "input") d)

abbrev reader : List ℕ → List ℕ → (Data → Option Command) → Reader
reader kind attributes read = record { kind = kind; attributes = attributes; read = read }

-- the readers of all types; an activity is canceled by the number of the event that scheduled it
abbrev pub readers : List Event → List Reader
readers events =
    reader (codes "COMMAND_TYPE_SCHEDULE_ACTIVITY_TASK")
    (codes "scheduleActivityTaskCommandAttributes") start_activity_in
    ∷ reader (codes "COMMAND_TYPE_REQUEST_CANCEL_ACTIVITY_TASK") (codes "requestCancelActivityTaskCommandAttributes")
    (λ d. option_map (λ number. commands.CancelActivity (id_at events number)) (number_at (codes "scheduledEventId") d))
    ∷ reader (codes "COMMAND_TYPE_START_TIMER") (codes "startTimerCommandAttributes") start_timer_in
    ∷ reader (codes "COMMAND_TYPE_CANCEL_TIMER") (codes "cancelTimerCommandAttributes")
    (λ d. option_map commands.CancelTimer (text_at (codes "timerId") d))
    ∷ reader (codes "COMMAND_TYPE_START_CHILD_WORKFLOW_EXECUTION")
    (codes "startChildWorkflowExecutionCommandAttributes")
    start_child_in
    ∷ reader (codes "COMMAND_TYPE_REQUEST_CANCEL_EXTERNAL_WORKFLOW_EXECUTION")
    (codes "requestCancelExternalWorkflowExecutionCommandAttributes")
    (λ d. option_map commands.CancelChild (text_at (codes "workflowId") d))
    ∷ reader (codes "COMMAND_TYPE_SIGNAL_EXTERNAL_WORKFLOW_EXECUTION")
    (codes "signalExternalWorkflowExecutionCommandAttributes") signal_external_in
    ∷ reader (codes "COMMAND_TYPE_RECORD_MARKER") (codes "recordMarkerCommandAttributes") marker_in
    ∷ reader (codes "COMMAND_TYPE_COMPLETE_WORKFLOW_EXECUTION") (codes "completeWorkflowExecutionCommandAttributes")
    (λ d. option_map commands.Complete (payloads_of (codes "result") d))
    ∷ reader (codes "COMMAND_TYPE_FAIL_WORKFLOW_EXECUTION") (codes "failWorkflowExecutionCommandAttributes") fail_in
    ∷ reader (codes "COMMAND_TYPE_CANCEL_WORKFLOW_EXECUTION") (codes "cancelWorkflowExecutionCommandAttributes")
    (λ d. Some commands.Cancel)
    ∷ reader (codes "COMMAND_TYPE_CONTINUE_AS_NEW_WORKFLOW_EXECUTION")
    (codes "continueAsNewWorkflowExecutionCommandAttributes") continue_as_new_in ∷ []

-- the command of a type, by the first reader for it
abbrev pub read_by : List Reader → List ℕ → Data → Option Command
read_by [] kind d = None
read_by (r ∷ rs) kind d = if bytes_eq r.kind kind then get r.attributes d >>= r.read else read_by rs kind d

-- the command that a value is read as, after these events of the history
abbrev pub command_in : List Event → Data → Option Command
command_in events d = text_at (codes "commandType") d >>= (λ kind. read_by (readers events) kind d)

-- ---- What is read is what was written

-- payloads consist of bytes
abbrev pub HaveBytes : List Payload → Type 0
HaveBytes [] = ⊤
HaveBytes (payload ∷ payloads) = IsBytes payload.encoding × IsBytes payload.content × HaveBytes payloads

-- a command that a program can hold; a marker's change has a name, in UTF-8, and its version is a valid one
abbrev pub IsSent : Command → Type 0
IsSent (commands.StartActivity id activity input) = HaveBytes input
IsSent (commands.StartChild workflow_id workflow input) = HaveBytes input
IsSent (commands.SignalExternal workflow_id signal input) = HaveBytes input
IsSent (commands.Marker change_id version) =
    (change_id ≢ []) × IsUtf8 change_id × (as_version version ≡ Some version)
IsSent (commands.Complete result) = HaveBytes result
IsSent (commands.ContinueAsNew workflow input) = HaveBytes input
IsSent _ = ⊤

-- events of a history that is in place and not too long
abbrev pub IsHistory : List Event → Type 0
IsHistory events = InPlace events × (length events ≤ most_events)

-- a command that is written after the events of a history is read back
abbrev pub ReadsBack : Type 0
ReadsBack = (names : WorkerNames) (policies : Policies) (carried : Carried) (events : List Event)
    (command : Command) (d : Data)
    → IsHistory events → IsSent command → written names policies carried events command ≡ Ok d
    → command_in events d ≡ Some command

-- two commands are never written alike
abbrev pub CommandsDiffer : Type 0
CommandsDiffer = (names : WorkerNames) (policies : Policies) (carried : Carried) (events : List Event)
    (c e : Command) (d : Data)
    → IsHistory events → IsSent c → IsSent e
    → written names policies carried events c ≡ Ok d → written names policies carried events e ≡ Ok d → c ≡ e

-- the policies change neither whether a command is written nor what it reads back as; replay compares only the command
abbrev pub PoliciesAreUnseen : Type 0
PoliciesAreUnseen = (names : WorkerNames) (policies others : Policies) (carried : Carried) (events : List Event)
    (command : Command) (d : Data) → IsHistory events → IsSent command
    → written names policies carried events command ≡ Ok d
    → (e : Data) × (written names others carried events command ≡ Ok e) × (command_in events e ≡ command_in events d)
