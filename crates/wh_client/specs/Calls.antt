-- What calls come to.
use Rattle.std.specs.Prelude.{ℕ, ℤ, List, Result, Ok, Err, string_bytes, ⊤}
use Rattle.serde_json.specs.Data.{Data}
use Rattle.serde_json.specs.View.{view}
use Rattle.wh_rpc.specs.declared.call_fault.CallFault.{CallFault}
use Rattle.wh_rpc.specs.declared.response.CallResult.{CallResult}
use Rattle.wh_rpc.specs.declared.response.CallResult.TheVariants.{Given, Refused}

-- which results a request may get, by its method and its parameters
abbrev pub Gives : Type 1
Gives = List ℕ → Data → Data → Type 0

-- this holds for the result, if there is one
abbrev pub OnGiven : (Data → Type 0) → CallResult → Type 0
OnGiven p (Given value) = p (view value)
OnGiven p (Refused code message) = Unit {0}

-- why a request gets no result: it is refused with a code and a message, or it gets no response
pub data NoResult : Type 0 where
  refused : ℤ → List ℕ → NoResult
  no_response : CallFault → NoResult

-- why a request may get no result, by its method and its parameters
abbrev pub Fails : Type 1
Fails = List ℕ → Data → NoResult → Type 0

-- this holds for why there is no result, if there is none
abbrev pub OnFailed : (NoResult → Type 0) → Result (ℕ × CallResult) CallFault → Type 0
OnFailed p (Ok (id, Given value)) = ⊤
OnFailed p (Ok (id, Refused code message)) = p (refused code (string_bytes message))
OnFailed p (Err why) = p (no_response why)
