-- Why something failed, on a page: the failure and its causes, whole, and their stack traces.
use Rattle.std.specs.Prelude.{ℕ, ◌==◌, if◌then◌else◌, List, [], ◌∷◌, ◌++◌, codes, length, map}
use Rattle.std.specs.List.{flat_map}
use Rattle.std.specs.Str.{trim_start}
use Rattle.std.specs.Str.Lines.{lines}
use Rattle.wh_view.specs.declared.view.ViewedEvent.{ViewedEvent}
use Rattle.wh_view.specs.declared.view.ViewedFailure.{ViewedFailure}
use Rattle.wh_run_page.specs.Words.{after_label}

-- a failure: its type, if it has one, and its message
abbrev pub typed_message : (kind message : List ℕ) → List ℕ
typed_message [] message = message
typed_message (c ∷ cs) message = c ∷ cs ++ after_label (codes ": ") message

abbrev pub failure_words : ViewedFailure → List ℕ
failure_words failure = typed_message failure.kind failure.message

-- a cause, after the failure that it caused
abbrev pub cause_words : ViewedFailure → List ℕ
cause_words failure = codes " <- " ++ failure_words failure

-- why an event failed, after a label: the failure, its causes, and the cause in Temporal's words; or else the reason that
-- it gives
abbrev pub reason_by : List ViewedFailure → (label : List ℕ) → ViewedEvent → List ℕ
reason_by [] label event = after_label label event.failure
reason_by (failure ∷ others) label event =
    label ++ (failure_words failure ++ (flat_map cause_words others
    ++ after_label (codes ", cause ") event.details.ending.cause))

unfoldable pub reason : (label : List ℕ) → ViewedEvent → List ℕ
reason label event = reason_by event.details.failures label event

-- which timeout a workflow task ran into, and why something was not tried again
abbrev pub ending_words : ViewedEvent → List ℕ
ending_words event =
    after_label (codes ", timeout ") event.details.ending.timeout_type
    ++ after_label (codes ", retry state ") event.details.ending.retry_state

-- a line of a stack trace, without what it is indented by
abbrev pub line_text : List ℕ → List ℕ
line_text text = trim_start text

-- the stack trace of a failure after the failure in words, if it has one
abbrev pub trace_of : ViewedFailure → List (List ℕ)
trace_of failure =
    if length failure.stack_trace == 0 then []
    else failure_words failure ∷ map line_text (lines failure.stack_trace)
