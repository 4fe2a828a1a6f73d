-- The cause with which a task is failed, and what becomes of an answer whose call failed.
use Rattle.std.specs.Prelude.{◌≡◌, ◌≢◌, ◌↔◌, false}
use Rattle.wh_client.specs.Codes.{is_taken, refused_answer}
use Rattle.wh_client.specs.Refusals.{HasNoMeaning}
use Rattle.wh_client.specs.declared.asking.AskFault.{AskFault}
use Rattle.wh_client.specs.declared.asking.AskFault.TheVariants as asked
use Rattle.wh_client.specs.declared.codes.Receipt.{Receipt}
use Rattle.wh_client.specs.declared.codes.Receipt.TheVariants.{Acknowledged, Cut, Lost, NoMemory}
use Rattle.wh_messages.specs.declared.request.FailedCause.{FailedCause}
use Rattle.wh_messages.specs.declared.request.FailedCause.TheVariants.{Nondeterministic, Unhandled}
use Rattle.wh_replay.specs.declared.fault.Fault.{Fault}
use Rattle.wh_replay.specs.declared.fault.Fault.TheVariants.{NotATask, Place, Workflow, Mismatch}

-- a mismatch of commands has its own cause; every other fault is one of the worker
abbrev pub cause_of : Fault → FailedCause
cause_of NotATask = Unhandled
cause_of (Place at fault) = Unhandled
cause_of (Workflow at fault) = Unhandled
cause_of (Mismatch at mismatch) = Nondeterministic

-- an answer is cut off if the bridge has closed; if it is refused the status decides
abbrev pub receipt_of : AskFault → Receipt
receipt_of asked.Closed = Cut
receipt_of asked.Output = Lost
receipt_of (asked.Refused status code message) = refused_answer status
receipt_of asked.Unreadable = Lost
receipt_of asked.TooManyPages = Lost
receipt_of (asked.History fault) = Lost
receipt_of asked.OutOfMemory = NoMemory

-- ---- Laws

-- the commands differ from their record
abbrev pub IsMismatch : Fault → Type 0
IsMismatch NotATask = ⊥
IsMismatch (Place at fault) = ⊥
IsMismatch (Workflow at fault) = ⊥
IsMismatch (Mismatch at mismatch) = Unit {0}

-- a task is failed with a non-determinism error exactly if its commands differ from their record
abbrev pub CausesByFault : Type 0
CausesByFault = (fault : Fault) → (cause_of fault ≡ Nondeterministic) ↔ IsMismatch fault

-- an answer whose call failed is never acknowledged, and it is cut off exactly if the bridge has closed
abbrev pub ReceiptsByFault : Type 0
ReceiptsByFault = (fault : AskFault) →
    (receipt_of fault ≢ Acknowledged) × ((receipt_of fault ≡ Cut) ↔ (fault ≡ asked.Closed))

-- what becomes of an answer that is not sent, since it is not known what its run carries over, never counts as taken: the
-- status of a page that was refused says nothing about the task
abbrev pub UnsentByFault : Type 0
UnsentByFault = (fault : AskFault) → HasNoMeaning fault → is_taken (receipt_of fault) ≡ false
