-- What became of the calls that answer tasks.
use Rattle.std.specs.Prelude.{◌≡◌, ◌⊎◌, ℕ, ℤ, List, Bool, true, false, ⊤}
use Rattle.serde_json.specs.Data.{Data}
use Rattle.serde_json.specs.View.{view}
use Rattle.wh_client.specs.Calls.{Fails, Gives, NoResult, refused}
use Rattle.wh_client.specs.Codes.{HasCode, refused_answer}
use Rattle.wh_client.specs.Refusals.{IsFaultBy}
use Rattle.wh_client.specs.declared.asking.AskFault.TheVariants as asked
use Rattle.wh_client.specs.declared.codes.Receipt.{Receipt}
use Rattle.wh_client.specs.declared.codes.Receipt.TheVariants as receipt
use Rattle.wh_client.specs.declared.codes.StatusCode.{StatusCode}
use Rattle.wh_client.specs.declared.codes.StatusCode.TheVariants as status
use Rattle.wh_client.specs.declared.requests.Request.{Request}
use Rattle.wh_messages.specs.Completions.{is_discarded}
use Rattle.wh_messages.specs.Refusals.{IsTooLarge}

-- a result was given, which says whether the task is discarded
pub record IsAccepted (given : Data → Type 0) (discarded : Bool) : Type 0 where
  pub result : Data
  pub is : given result
  pub read : is_discarded result ≡ discarded

-- the call was refused with a code of this status
pub record IsRefused (failed : NoResult → Type 0) (of : StatusCode) : Type 0 where
  pub code : ℤ
  pub message : List ℕ
  pub has : HasCode of code
  pub is : failed (refused code message)

-- the call was refused since its request is larger than the server accepts
pub record IsRefusedAsLarge (failed : NoResult → Type 0) : Type 0 where
  pub code : ℤ
  pub message : List ℕ
  pub large : IsTooLarge code message
  pub is : failed (refused code message)

-- the request was not written, or the call was refused with a status after which the answer is lost
abbrev pub IsLost : (NoResult → Type 0) → Type 0
IsLost failed =
    IsFaultBy failed asked.Output ⊎ ((of : StatusCode) × (refused_answer of ≡ receipt.Lost) × IsRefused failed of)

-- what became of a call is what it came to; one whose request is too large is replaced, and there may be no memory
abbrev pub IsReceipt : (Data → Type 0) → (NoResult → Type 0) → Receipt → Type 0
IsReceipt given failed receipt.Acknowledged = IsAccepted given false
IsReceipt given failed receipt.Discarded = IsAccepted given true
IsReceipt given failed receipt.NotFound = IsRefused failed status.NotFound
IsReceipt given failed receipt.Invalid = IsRefused failed status.InvalidArgument
IsReceipt given failed receipt.Withheld = ⊥
IsReceipt given failed receipt.Replaced = IsRefusedAsLarge failed
IsReceipt given failed receipt.Cut = IsFaultBy failed asked.Closed
IsReceipt given failed receipt.Lost = IsLost failed
IsReceipt given failed receipt.NoMemory = ⊤

-- what became of a call of this method with these parameters
abbrev pub IsReceiptOf : Gives → Fails → List ℕ → Data → Receipt → Type 0
IsReceiptOf gives fails method params receipt = IsReceipt (gives method params) (fails method params) receipt

-- what became of a request
abbrev pub IsRequestReceipt : Gives → Fails → Request → Receipt → Type 0
IsRequestReceipt gives fails request receipt =
    IsReceiptOf gives fails request.method.now (view request.params) receipt
