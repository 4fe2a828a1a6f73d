-- What became of answers.
use Rattle.std.proofs.Common.{◌≡◌, ℕ, List, Bool, true, false, Option, Result, Ok, Err, IfOk, inl, inr, refl, subst, sym}
use Rattle.std.specs.Prelude.{MatchResult, not}
use Rattle.serde_json.specs.Data.{Data}
use Rattle.wh_client.specs.Calls.{Fails, Gives}
use Rattle.wh_client.specs.Requests.{IsRequest}
use Rattle.wh_client.specs.declared.codes.Receipt.{Receipt}
use Rattle.wh_client.specs.declared.codes.Receipt.TheVariants as receipt
use Rattle.wh_client.specs.declared.requests.Request.{Request}
use Rattle.wh_client.specs.Histories.{HandsOn}
use Rattle.wh_commands.specs.CarryingOver.{Carried, nothing_carried}
use Rattle.wh_commands.specs.declared.names.WorkerNames.{WorkerNames}
use Rattle.wh_events.specs.declared.memory.OutOfMemory.{OutOfMemory}
use Rattle.wh_events.specs.declared.key.RunKey.{RunKey}
use Rattle.wh_slots.specs.declared.TaskName.{TaskName}
use Rattle.wh_live.specs.declared.tasks.OpenTask.{OpenTask}
use Rattle.wh_live.specs.Private.Answering.{AnswersOpen, IsCarried, IsOpenReceipt}
use Rattle.wh_live.specs.Private.Receipts.{IsReceiptOf, IsRequestReceipt}

module _ (gives : Gives) (fails : Fails) where
  -- what became of a request is what became of the call that it was written for
  pub called : (method : List ℕ) (params : Data) (request : Request) (of : Receipt) → IsRequest request method params
      → IsRequestReceipt gives fails request of → IsReceiptOf gives fails method params of
  called method params request of is became =
      subst (λ m. IsReceiptOf gives fails m params of) is.calls (subst (λ p. IsReceiptOf gives fails request.method.now p of) is.says became)

  -- the same where there may have been no memory for the request
  pub called_if_written : (method : List ℕ) (params : Data) (request : Result Request OutOfMemory) (of : Receipt)
      → IfOk request (λ r. IsRequest r method params)
      → MatchResult request (λ r. IsRequestReceipt gives fails r of) (λ _. of ≡ receipt.NoMemory)
      → IsReceiptOf gives fails method params of
  called_if_written method params (Ok request) of is became = called method params request of is became
  called_if_written method params (Err refused) of is none = subst (IsReceiptOf gives fails method params) (sym none) tt

pub not_false : (b : Bool) → not b ≡ false → b ≡ true
not_false true e = refl
not_false false e = cc

-- an answer that was acknowledged is one to the open task
pub acknowledged_open : (answers : OpenTask → Receipt → Type 0) (open_task : Option OpenTask) (name : TaskName) (of : Receipt)
    → IsOpenReceipt answers open_task name of → of ≡ receipt.Acknowledged → AnswersOpen answers open_task name receipt.Acknowledged
acknowledged_open answers open_task name of (inl is) e = subst (AnswersOpen answers open_task name) e is
acknowledged_open answers open_task name of (inr lost) e = let is = lost.0 in cc

module _ (gives : Gives) (names : WorkerNames) (run : RunKey) where
  -- commands that do not continue the run carry nothing over
  pub carries_nothing : (goes_on : Bool) (carried : Carried) → goes_on ≡ false → carried ≡ nothing_carried → IsCarried gives names run goes_on carried
  carries_nothing goes_on carried ends is = subst (λ b. IsCarried gives names run b carried) (sym ends) is

  -- those that do carry over what its first event says
  pub carried_on : (goes_on : Bool) (carried : Carried) → goes_on ≡ true → HandsOn gives names run carried → IsCarried gives names run goes_on carried
  carried_on goes_on carried continued is = subst (λ b. IsCarried gives names run b carried) (sym continued) is
