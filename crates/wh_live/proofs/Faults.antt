-- What becomes of answers whose calls failed, fault by fault.
use Rattle.std.proofs.Common.{◌≡◌, ap, refl}
use Rattle.wh_client.specs.Codes.{is_taken, refused_answer}
use Rattle.wh_client.specs.declared.asking.AskFault.TheVariants as asked
use Rattle.wh_client.specs.declared.codes.Receipt.TheVariants.{Acknowledged, Cut}
use Rattle.wh_client.specs.declared.codes.StatusCode.TheVariants as status
use Rattle.wh_client.specs.declared.codes.Receipt.{Receipt}
use Rattle.wh_client.specs.declared.codes.Receipt.TheVariants as receipt
use Rattle.wh_live.specs.Answers.{CausesByFault, ReceiptsByFault, UnsentByFault}
use Rattle.wh_live.specs.Private.Answering.{run_use}
use Rattle.wh_tasks.specs.declared.source.RunUse.TheVariants.{Cache}
use Rattle.wh_replay.specs.declared.fault.Fault.TheVariants.{NotATask, Place, Workflow, Mismatch}

pub causes_by_fault : CausesByFault
causes_by_fault NotATask = (λ e. cc, λ is. absurd is)
causes_by_fault (Place at fault) = (λ e. cc, λ is. absurd is)
causes_by_fault (Workflow at fault) = (λ e. cc, λ is. absurd is)
causes_by_fault (Mismatch at mismatch) = (λ _. tt, λ _. refl)

pub receipts_by_fault : ReceiptsByFault
receipts_by_fault asked.Closed = (λ e. cc, (λ _. refl, λ _. refl))
receipts_by_fault asked.Output = (λ e. cc, (λ e. cc, λ e. cc))
receipts_by_fault (asked.Refused status.Cancelled code message) = (λ e. cc, (λ e. cc, λ e. cc))
receipts_by_fault (asked.Refused status.InvalidArgument code message) = (λ e. cc, (λ e. cc, λ e. cc))
receipts_by_fault (asked.Refused status.NotFound code message) = (λ e. cc, (λ e. cc, λ e. cc))
receipts_by_fault (asked.Refused status.PermissionDenied code message) = (λ e. cc, (λ e. cc, λ e. cc))
receipts_by_fault (asked.Refused status.Unauthenticated code message) = (λ e. cc, (λ e. cc, λ e. cc))
receipts_by_fault (asked.Refused status.Other code message) = (λ e. cc, (λ e. cc, λ e. cc))
receipts_by_fault asked.Unreadable = (λ e. cc, (λ e. cc, λ e. cc))
receipts_by_fault asked.TooManyPages = (λ e. cc, (λ e. cc, λ e. cc))
receipts_by_fault (asked.History fault) = (λ e. cc, (λ e. cc, λ e. cc))
receipts_by_fault asked.OutOfMemory = (λ e. cc, (λ e. cc, λ e. cc))

pub unsent_by_fault : UnsentByFault
unsent_by_fault asked.Closed has = refl
unsent_by_fault asked.Output has = refl
unsent_by_fault (asked.Refused of code message) has = ap (λ s. is_taken (refused_answer s)) has
unsent_by_fault asked.Unreadable has = refl
unsent_by_fault asked.TooManyPages has = refl
unsent_by_fault (asked.History fault) has = refl
unsent_by_fault asked.OutOfMemory has = refl

-- a run that is cached has an acknowledged answer
pub cached_acknowledged : (of : Receipt) → run_use of ≡ Cache → of ≡ receipt.Acknowledged
cached_acknowledged receipt.Acknowledged e = refl
cached_acknowledged receipt.Discarded e = cc
cached_acknowledged receipt.NotFound e = cc
cached_acknowledged receipt.Invalid e = cc
cached_acknowledged receipt.Withheld e = cc
cached_acknowledged receipt.Replaced e = cc
cached_acknowledged receipt.Cut e = cc
cached_acknowledged receipt.Lost e = cc
cached_acknowledged receipt.NoMemory e = cc
