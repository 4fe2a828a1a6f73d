-- The weight of a cached run.
use Rattle.std.specs.Prelude.{ℕ, ◌+◌, ◌/◌, min, List, [], ◌∷◌, length, sum_by}
use Rattle.wh_events.specs.declared.event.Event.{Event}
use Rattle.wh_events.specs.declared.event.Payload.{Payload}
use Rattle.wh_events.specs.declared.kind.EventKind.{EventKind}
use Rattle.wh_events.specs.declared.kind.EventKind.TheVariants.{WorkflowExecutionStarted}

-- how many bytes a payload has, with the name of its encoding
abbrev pub payload_bytes : Payload → ℕ
payload_bytes payload = length payload.encoding + length payload.content

-- the input in the event that starts a run
abbrev pub input_in : EventKind → List Payload
input_in (WorkflowExecutionStarted _ input) = input
input_in _ = []

-- the input of a run
abbrev pub input_of : List Event → List Payload
input_of [] = []
input_of (event ∷ _) = input_in event.body

-- one for each event, and one for each whole KiB of the input; at most 4 GiB of the input count
unfoldable pub weight_of : List Event → ℕ
weight_of events = length events + min (sum_by payload_bytes (input_of events)) 4_294_967_296 / 1024
