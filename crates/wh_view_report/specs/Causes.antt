-- Why something failed: the failure and its causes.
use Rattle.std.specs.Prelude.{ℕ, List, [], ◌∷◌, ◌++◌, codes, Option, Some}
use Rattle.std.specs.List.{flat_map}
use Rattle.wh_events.specs.declared.kind.EventKind.{EventKind}
use Rattle.wh_events.specs.declared.kind.EventKind.TheVariants.{ActivityTaskStarted}
use Rattle.wh_view.specs.declared.view.ViewedEvent.{ViewedEvent}
use Rattle.wh_view.specs.declared.view.ViewedFailure.{ViewedFailure}
use Rattle.wh_view_report.specs.Cut.{cut, label_text}

-- the type, if there is one, and the message
abbrev pub typed_message : List ℕ → List ℕ → List ℕ
typed_message [] message = cut message
typed_message (c ∷ cs) message = cut (c ∷ cs) ++ label_text (codes ": ") message

-- a failure: its type, if it has one, and its message
abbrev pub failure_text : ViewedFailure → List ℕ
failure_text failure = typed_message failure.kind failure.message

-- a cause, after the failure that it caused
abbrev pub cause_text : ViewedFailure → List ℕ
cause_text failure = codes " <- " ++ failure_text failure

-- what stands before a failure: the start of an activity tells that of the attempt before
abbrev pub reason_label : Option EventKind → List ℕ
reason_label (Some (ActivityTaskStarted _)) = codes ", after "
reason_label _ = codes ", because "

-- why an event failed: the failure, its causes, and the cause in Temporal's words; or else the reason that it gives
abbrev pub because_by : List ViewedFailure → ViewedEvent → List ℕ
because_by [] event = label_text (reason_label event.read.kind) event.failure
because_by (failure ∷ others) event =
    reason_label event.read.kind ++ (failure_text failure ++ (flat_map cause_text others
    ++ label_text (codes ", cause ") event.details.ending.cause))

unfoldable pub because_text : ViewedEvent → List ℕ
because_text event = because_by event.details.failures event

-- which timeout a workflow task ran into, and why something was not tried again
abbrev pub ending_text : ViewedEvent → List ℕ
ending_text event =
    label_text (codes ", timeout ") event.details.ending.timeout_type
    ++ label_text (codes ", retry state ") event.details.ending.retry_state
