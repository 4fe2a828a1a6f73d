-- What calls that failed mean.
use Rattle.std.specs.Prelude.{◌≡◌, ℕ, Result, Ok, Err, string_bytes, ⊤}
use Rattle.wh_client.specs.Calls.{NoResult, no_response, refused}
use Rattle.wh_client.specs.Codes.{HasCode}
use Rattle.wh_client.specs.declared.asking.AskFault.{AskFault}
use Rattle.wh_client.specs.declared.asking.AskFault.TheVariants as asked
use Rattle.wh_client.specs.declared.codes.StatusCode.{StatusCode}
use Rattle.wh_client.specs.declared.codes.StatusCode.TheVariants.{Other}
use Rattle.wh_messages.specs.Refusals as server
use Rattle.wh_rpc.specs.declared.call_fault.CallFault.{CallFault}
use Rattle.wh_rpc.specs.declared.call_fault.CallFault.TheVariants as call
use Rattle.wh_rpc.specs.declared.response.CallResult.{CallResult}
use Rattle.wh_rpc.specs.declared.response.CallResult.TheVariants.{Given, Refused}

-- ---- The fault of a call

-- the fault of a call that got no response
abbrev pub unanswered : CallFault → AskFault
unanswered call.Closed = asked.Closed
unanswered call.Output = asked.Output
unanswered call.OutOfMemory = asked.OutOfMemory

-- the fault of a refused call: its code and its message, with the status of the code
abbrev pub IsRefusal : CallResult → AskFault → Type 0
IsRefusal (Given value) fault = ⊥
IsRefusal (Refused code message) fault =
    (status : StatusCode) × HasCode status code × (fault ≡ asked.Refused status code message)

-- the fault of a call, by its response
abbrev pub IsFaultOf : Result (ℕ × CallResult) CallFault → AskFault → Type 0
IsFaultOf (Ok responded) fault = IsRefusal responded.1 fault
IsFaultOf (Err why) fault = fault ≡ unanswered why

-- if the call was refused, its status is the one of its code
abbrev pub HasItsStatus : AskFault → Type 0
HasItsStatus asked.Closed = ⊤
HasItsStatus asked.Output = ⊤
HasItsStatus (asked.Refused status code message) = HasCode status code
HasItsStatus asked.Unreadable = ⊤
HasItsStatus asked.TooManyPages = ⊤
HasItsStatus (asked.History fault) = ⊤
HasItsStatus asked.OutOfMemory = ⊤

-- the call came to this fault for such a reason; there may be no memory at any time
abbrev pub IsFaultBy : (NoResult → Type 0) → AskFault → Type 0
IsFaultBy p asked.Closed = p (no_response call.Closed)
IsFaultBy p asked.Output = p (no_response call.Output)
IsFaultBy p (asked.Refused status code message) = p (refused code (string_bytes message))
IsFaultBy p asked.Unreadable = ⊥
IsFaultBy p asked.TooManyPages = ⊥
IsFaultBy p (asked.History fault) = ⊥
IsFaultBy p asked.OutOfMemory = ⊤

-- ---- What it means

-- the call was refused because its request is larger than the server accepts
abbrev pub IsTooLarge : AskFault → Type 0
IsTooLarge asked.Closed = ⊥
IsTooLarge asked.Output = ⊥
IsTooLarge (asked.Refused status code message) = server.IsTooLarge code (string_bytes message)
IsTooLarge asked.Unreadable = ⊥
IsTooLarge asked.TooManyPages = ⊥
IsTooLarge (asked.History fault) = ⊥
IsTooLarge asked.OutOfMemory = ⊥

-- a failed call says nothing about later polls nor about a task: if it was refused, its status is none of those that a
-- worker distinguishes
abbrev pub HasNoMeaning : AskFault → Type 0
HasNoMeaning asked.Closed = ⊤
HasNoMeaning asked.Output = ⊤
HasNoMeaning (asked.Refused status code message) = status ≡ Other
HasNoMeaning asked.Unreadable = ⊤
HasNoMeaning asked.TooManyPages = ⊤
HasNoMeaning (asked.History fault) = ⊤
HasNoMeaning asked.OutOfMemory = ⊤

-- the fault of a page says nothing about later polls nor about a task
abbrev pub of_page : AskFault → AskFault
of_page asked.Closed = asked.Closed
of_page asked.Output = asked.Output
of_page (asked.Refused status code message) = asked.Refused Other code message
of_page asked.Unreadable = asked.Unreadable
of_page asked.TooManyPages = asked.TooManyPages
of_page (asked.History fault) = asked.History fault
of_page asked.OutOfMemory = asked.OutOfMemory
