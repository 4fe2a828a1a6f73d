-- What the status codes of refused calls mean.
use Rattle.std.specs.Prelude.{◌≡◌, ◌≢◌, ◌↔◌, ◌⊎◌, ℤ, pos, Bool, true, false}
use Rattle.wh_client.specs.declared.codes.StatusCode.{StatusCode}
use Rattle.wh_client.specs.declared.codes.StatusCode.TheVariants as status
use Rattle.wh_client.specs.declared.codes.PollEnd.{PollEnd}
use Rattle.wh_client.specs.declared.codes.PollEnd.TheVariants as poll
use Rattle.wh_client.specs.declared.codes.Receipt.{Receipt}
use Rattle.wh_client.specs.declared.codes.Receipt.TheVariants as receipt

-- the code is one of this status
abbrev pub HasCode : StatusCode → ℤ → Type 0
HasCode status.Cancelled code = code ≡ pos 1
HasCode status.InvalidArgument code = code ≡ pos 3
HasCode status.NotFound code = code ≡ pos 5
HasCode status.PermissionDenied code = code ≡ pos 7
HasCode status.Unauthenticated code = code ≡ pos 16
HasCode status.Other code =
    (code ≢ pos 1) × (code ≢ pos 3) × (code ≢ pos 5) × (code ≢ pos 7) × (code ≢ pos 16)

-- a canceled poll means that there are no more tasks; if what is polled does not exist, or the worker may not poll it,
-- no later poll can succeed; otherwise one may
abbrev pub poll_end : StatusCode → PollEnd
poll_end status.Cancelled = poll.Closed
poll_end status.InvalidArgument = poll.Never
poll_end status.NotFound = poll.Never
poll_end status.PermissionDenied = poll.Never
poll_end status.Unauthenticated = poll.Never
poll_end status.Other = poll.Later

-- what became of an accepted answer, by whether the server discarded the task
abbrev pub accepted_answer : Bool → Receipt
accepted_answer true = receipt.Discarded
accepted_answer false = receipt.Acknowledged

-- what became of a refused answer: its task is over, or the server has failed the task; otherwise it is lost
abbrev pub refused_answer : StatusCode → Receipt
refused_answer status.Cancelled = receipt.Lost
refused_answer status.InvalidArgument = receipt.Invalid
refused_answer status.NotFound = receipt.NotFound
refused_answer status.PermissionDenied = receipt.Lost
refused_answer status.Unauthenticated = receipt.Lost
refused_answer status.Other = receipt.Lost

-- the server has the answer, or needs none for the task, or the answer is withheld on purpose
abbrev pub is_taken : Receipt → Bool
is_taken receipt.Acknowledged = true
is_taken receipt.Discarded = true
is_taken receipt.NotFound = true
is_taken receipt.Invalid = true
is_taken receipt.Withheld = true
is_taken receipt.Replaced = false
is_taken receipt.Cut = false
is_taken receipt.Lost = false
is_taken receipt.NoMemory = false

-- the server has the answer, and the events of the task stand in the history
abbrev pub keeps_run : Receipt → Bool
keeps_run receipt.Acknowledged = true
keeps_run receipt.Discarded = false
keeps_run receipt.NotFound = false
keeps_run receipt.Invalid = false
keeps_run receipt.Withheld = false
keeps_run receipt.Replaced = false
keeps_run receipt.Cut = false
keeps_run receipt.Lost = false
keeps_run receipt.NoMemory = false

-- ---- Laws

-- the run of a task is never cached after a refusal
abbrev pub NoRunByCode : Type 0
NoRunByCode = (of : StatusCode) → keeps_run (refused_answer of) ≡ false

-- the worker is not let in: the request is invalid, or its namespace does not exist, or the worker may not poll there,
-- or is not authenticated
abbrev pub KeepsOut : ℤ → Type 0
KeepsOut code = (code ≡ pos 3) ⊎ ((code ≡ pos 5) ⊎ ((code ≡ pos 7) ⊎ (code ≡ pos 16)))

-- a refused poll ends polling exactly if it was canceled, and polling fails for good exactly if the worker is not let
-- in
abbrev pub PollsByCode : Type 0
PollsByCode = (of : StatusCode) (code : ℤ) → HasCode of code
    → ((poll_end of ≡ poll.Closed) ↔ (code ≡ pos 1)) × ((poll_end of ≡ poll.Never) ↔ KeepsOut code)

-- a refused answer counts as taken exactly if the server no longer needs it: the task is over, or the server has failed
-- it
abbrev pub AnswersByCode : Type 0
AnswersByCode = (of : StatusCode) (code : ℤ) → HasCode of code
    → (is_taken (refused_answer of) ≡ true) ↔ ((code ≡ pos 5) ⊎ (code ≡ pos 3))

-- an accepted answer counts as taken, and the run of its task is cached exactly if the server did not discard the task
abbrev pub AcceptedAnswers : Type 0
AcceptedAnswers = (is_discarded : Bool) → (is_taken (accepted_answer is_discarded) ≡ true)
    × ((keeps_run (accepted_answer is_discarded) ≡ true) ↔ (is_discarded ≡ false))

-- the run of a task is cached exactly if its answer was acknowledged, and each such answer counts as taken
abbrev pub RunsByReceipt : Type 0
RunsByReceipt = (of : Receipt)
    → ((keeps_run of ≡ true) ↔ (of ≡ receipt.Acknowledged)) × (keeps_run of ≡ true → is_taken of ≡ true)
