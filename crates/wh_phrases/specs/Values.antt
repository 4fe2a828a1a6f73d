-- Which values of a command differ from what its event records.
use Rattle.std.specs.Prelude.{ℕ, ◌&&◌, ◌++◌, List, [], ◌∷◌, codes, decimal, Bool, true, bytes_eq, Option, Some, None, Result, Ok, Err, if◌then◌else◌}
use Rattle.std.specs.Cmp.Lexicographic.{pointwise}
use Rattle.serde_json.specs.Data.{Data}
use Rattle.wh_events.specs.declared.event.Payload.{Payload}
use Rattle.wh_json.specs.declared.fault.ReadFault.{ReadFault}
use Rattle.wh_json.specs.Fields.{field, text_of}
use Rattle.wh_json.specs.Payloads.{payloads_at}
use Rattle.wh_workflow.specs.declared.command.Command.{Command}
use Rattle.wh_workflow.specs.declared.command.Command.TheVariants as commands
use Rattle.wh_phrases.specs.ValueSides.{look_alike, side_text}
use Rattle.wh_phrases.specs.declared.comparing.OtherValue.{OtherValue}
use Rattle.wh_phrases.specs.declared.comparing.ValueKind.{ValueKind}
use Rattle.wh_phrases.specs.declared.comparing.ValueKind.TheVariants.{Input, Result as Outcome, Duration, Failure}

-- two payloads have the same encoding and the same content
abbrev pub same_payload : Payload → Payload → Bool
same_payload one other = bytes_eq one.encoding other.encoding && bytes_eq one.content other.content

-- a text is the recorded one, if there is one
abbrev pub is_recorded : List ℕ → List ℕ → Bool
is_recorded sent [] = true
is_recorded sent (c ∷ cs) = bytes_eq sent (c ∷ cs)

-- how long a timer is to take, as a history writes it
abbrev pub seconds_text : ℕ → List ℕ
seconds_text seconds = decimal seconds ++ codes "s"

-- a value of the event of a number: what is sent and what is recorded
abbrev pub other_value : ℕ → ValueKind → (sent recorded : List ℕ) → OtherValue
other_value number kind sent recorded =
    record { event = number; kind = kind; sent = sent; recorded = recorded }

-- that value, unless it is as it is recorded
abbrev pub unless_same : Bool → OtherValue → Option OtherValue
unless_same same value = if same then None else Some value

-- the payloads, with their encodings if both sides look alike without them, unless they are those that were read;
-- payloads that can't be read are not compared
abbrev pub read_value : ℕ → ValueKind → List Payload → Result (List Payload) ReadFault → Option OtherValue
read_value number kind sent (Ok recorded) =
    let encoded = look_alike sent recorded in
    unless_same (pointwise same_payload sent recorded)
    (other_value number kind (side_text encoded sent) (side_text encoded recorded))
read_value number kind sent (Err fault) = None

-- the payloads, unless attributes have them under a name
abbrev pub payloads_value : ℕ → ValueKind → List Payload → List ℕ → Option Data → Option OtherValue
payloads_value number kind sent name attributes =
    read_value number kind sent (payloads_at 0 (field name attributes))

-- a text, unless it is the recorded one or none is recorded
abbrev pub text_value : ℕ → ValueKind → (sent recorded : List ℕ) → Option OtherValue
text_value number kind sent recorded =
    unless_same (is_recorded sent recorded) (other_value number kind sent recorded)

-- the duration, unless a timer of so many seconds is to take as long as attributes have it
abbrev pub duration_value : ℕ → (seconds : ℕ) → Option Data → Option OtherValue
duration_value number seconds attributes =
    text_value number Duration (seconds_text seconds) (text_of (field (codes "startToFireTimeout") attributes))

-- the failure, unless attributes have this message of it
abbrev pub failure_value : ℕ → List ℕ → Option Data → Option OtherValue
failure_value number message attributes =
    text_value number Failure message (text_of (field (codes "message") (field (codes "failure") attributes)))

-- the value of a command that differs from what the attributes of its event, of this number, record, if there is one
abbrev pub value_of : ℕ → Command → Option Data → Option OtherValue
value_of number (commands.StartActivity _ _ input) attributes =
    payloads_value number Input input (codes "input") attributes
value_of number (commands.StartChild _ _ input) attributes =
    payloads_value number Input input (codes "input") attributes
value_of number (commands.SignalExternal _ _ input) attributes =
    payloads_value number Input input (codes "input") attributes
value_of number (commands.ContinueAsNew _ input) attributes =
    payloads_value number Input input (codes "input") attributes
value_of number (commands.Complete result) attributes =
    payloads_value number Outcome result (codes "result") attributes
value_of number (commands.StartTimer _ seconds) attributes = duration_value number seconds attributes
value_of number (commands.Fail message) attributes = failure_value number message attributes
value_of number _ attributes = None
