-- The codes, status by status.
use Rattle.std.proofs.Common.{◌≡◌, inl, inr, refl, subst, sym}
use Rattle.std.specs.Prelude.{ℕ, ℤ, pos, true, false, Result, Ok, Err}
use Rattle.wh_client.specs.Refusals.{HasItsStatus, IsFaultOf, unanswered}
use Rattle.wh_client.specs.declared.asking.AskFault.{AskFault}
use Rattle.wh_rpc.specs.declared.call_fault.CallFault.{CallFault}
use Rattle.wh_rpc.specs.declared.call_fault.CallFault.TheVariants as call
use Rattle.wh_rpc.specs.declared.response.CallResult.{CallResult}
use Rattle.wh_rpc.specs.declared.response.CallResult.TheVariants.{Given, Refused}
use Rattle.wh_client.specs.declared.codes.Receipt.TheVariants as receipt
use Rattle.wh_client.specs.declared.codes.StatusCode.TheVariants as status
use Rattle.wh_client.specs.Codes.{AcceptedAnswers, AnswersByCode, KeepsOut, NoRunByCode, PollsByCode, RunsByReceipt}

pub no_run_by_code : NoRunByCode
no_run_by_code status.Cancelled = refl
no_run_by_code status.InvalidArgument = refl
no_run_by_code status.NotFound = refl
no_run_by_code status.PermissionDenied = refl
no_run_by_code status.Unauthenticated = refl
no_run_by_code status.Other = refl

-- code 1 is none of those with which a worker is not let in
one_lets_in : (code : ℤ) → code ≡ pos 1 → KeepsOut code → ⊥
one_lets_in code one (inl three) = cc
one_lets_in code one (inr (inl five)) = cc
one_lets_in code one (inr (inr (inl seven))) = cc
one_lets_in code one (inr (inr (inr sixteen))) = cc

pub polls_by_code : PollsByCode
polls_by_code status.Cancelled code is = ((λ _. is, λ _. refl), (λ e. cc, λ out. absurd (one_lets_in code is out)))
polls_by_code status.InvalidArgument code is = ((λ e. cc, λ one. cc), (λ _. inl is, λ _. refl))
polls_by_code status.NotFound code is = ((λ e. cc, λ one. cc), (λ _. inr (inl is), λ _. refl))
polls_by_code status.PermissionDenied code is = ((λ e. cc, λ one. cc), (λ _. inr (inr (inl is)), λ _. refl))
polls_by_code status.Unauthenticated code is = ((λ e. cc, λ one. cc), (λ _. inr (inr (inr is)), λ _. refl))
polls_by_code status.Other code is = (
  (λ e. cc, λ one. absurd (is.0 one)),
  (
    λ e. cc,
    λ out. elim out [
      | inl three ↦ absurd (is.1 three)
      | inr more ↦ elim more [
        | inl five ↦ absurd (is.2 five)
        | inr rest ↦ elim rest [ inl seven ↦ absurd (is.3 seven) | inr sixteen ↦ absurd (is.4 sixteen) ]
      ]
    ],
  ),
)

pub answers_by_code : AnswersByCode
answers_by_code status.Cancelled code is =
    (λ e. cc, λ gone. elim gone [ inl five ↦ cc | inr three ↦ cc ])
answers_by_code status.InvalidArgument code is = (λ _. inr is, λ _. refl)
answers_by_code status.NotFound code is = (λ _. inl is, λ _. refl)
answers_by_code status.PermissionDenied code is =
    (λ e. cc, λ gone. elim gone [ inl five ↦ cc | inr three ↦ cc ])
answers_by_code status.Unauthenticated code is =
    (λ e. cc, λ gone. elim gone [ inl five ↦ cc | inr three ↦ cc ])
answers_by_code status.Other code is =
    (λ e. cc, λ gone. elim gone [ inl five ↦ absurd (is.2 five) | inr three ↦ absurd (is.1 three) ])

pub accepted_answers : AcceptedAnswers
accepted_answers true = (refl, (λ e. cc, λ e. cc))
accepted_answers false = (refl, (λ _. refl, λ _. refl))

pub runs_by_receipt : RunsByReceipt
runs_by_receipt receipt.Acknowledged = ((λ _. refl, λ _. refl), λ _. refl)
runs_by_receipt receipt.Discarded = ((λ e. cc, λ e. cc), λ e. cc)
runs_by_receipt receipt.NotFound = ((λ e. cc, λ e. cc), λ e. cc)
runs_by_receipt receipt.Invalid = ((λ e. cc, λ e. cc), λ e. cc)
runs_by_receipt receipt.Withheld = ((λ e. cc, λ e. cc), λ e. cc)
runs_by_receipt receipt.Replaced = ((λ e. cc, λ e. cc), λ e. cc)
runs_by_receipt receipt.Cut = ((λ e. cc, λ e. cc), λ e. cc)
runs_by_receipt receipt.Lost = ((λ e. cc, λ e. cc), λ e. cc)
runs_by_receipt receipt.NoMemory = ((λ e. cc, λ e. cc), λ e. cc)

unanswered_status : (why : CallFault) → HasItsStatus (unanswered why)
unanswered_status call.Closed = tt
unanswered_status call.Output = tt
unanswered_status call.OutOfMemory = tt

-- the fault of a refused call has the status of its code
pub has_its_status : (response : Result (ℕ × CallResult) CallFault) (fault : AskFault) → IsFaultOf response fault → HasItsStatus fault
has_its_status (Ok (id, Given value)) fault is = absurd is
has_its_status (Ok (id, Refused code message)) fault is = subst HasItsStatus (sym is.2) is.1
has_its_status (Err why) fault is = subst HasItsStatus (sym is) (unanswered_status why)
