-- Faults of a task of which nothing is said.
use Rattle.wh_client.specs.Refusals.{HasItsStatus}
use Rattle.wh_client.specs.declared.asking.AskFault.{AskFault}
use Rattle.wh_client.specs.declared.asking.AskFault.TheVariants as asked
use Rattle.wh_live.specs.Private.Opening.{IsSilent}

-- none of them is a refusal
pub silent_has_status : (fault : AskFault) → IsSilent fault → HasItsStatus fault
silent_has_status asked.Closed is = tt
silent_has_status asked.Output is = absurd is
silent_has_status (asked.Refused status code message) is = absurd is
silent_has_status asked.Unreadable is = absurd is
silent_has_status asked.TooManyPages is = absurd is
silent_has_status (asked.History fault) is = absurd is
silent_has_status asked.OutOfMemory is = tt
