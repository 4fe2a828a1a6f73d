-- Polls after which no later one can succeed.
use Rattle.std.proofs.Common.{◌≡◌, ◌∙◌, ℕ, List, Bool, Option, Result, Ok, Err, inl, inr, refl, subst, sym, true≢false}
use Rattle.std.specs.Prelude.{IfErr, IsErr, codes}
use Rattle.serde_json.specs.Data.{Data}
use Rattle.wh_client.proofs.Statuses.{polls_by_code}
use Rattle.wh_client.specs.Calls.{Fails, Gives}
use Rattle.wh_client.specs.Polls.{IsPoll, IsPollingOver}
use Rattle.wh_client.specs.Refusals.{HasItsStatus, IsFaultBy}
use Rattle.wh_client.specs.declared.asking.AskFault.{AskFault}
use Rattle.wh_client.specs.declared.asking.AskFault.TheVariants as asked
use Rattle.wh_commands.specs.declared.names.WorkerNames.{WorkerNames}
use Rattle.wh_client.specs.declared.codes.PollEnd.{PollEnd}
use Rattle.wh_client.specs.declared.codes.PollEnd.TheVariants.{Closed, Later, Never}
use Rattle.wh_notes.specs.declared.results.PollResult.{PollResult}
use Rattle.wh_notes.specs.declared.results.PollResult.TheVariants as results
use Rattle.wh_live.specs.declared.tasks.OpenTask.{OpenTask}
use Rattle.wh_live.specs.Private.Opening.{EndsIn, IsActivityFault, IsOpened, IsWorkflowFault}
use Rattle.wh_notes.specs.Polls.{EndsPoll, IsOverIfEnded, MayEnd, Reports, end_of, ended_after, ended_by}
use Rattle.wh_messages.specs.Requests.{poll_activity, poll_workflow}
use Rattle.wh_tasks.specs.declared.source.Polled.{Polled}
use Rattle.wh_tasks.specs.declared.source.Polled.TheVariants as polled
use Rattle.wh_tasks.specs.declared.source.SourceFault.{SourceFault}

-- a poll after which polling fails for good has shown that no later one can succeed
over_by : (fails : Fails) (method : List ℕ) (params : Data) (fault : AskFault) → IsPoll method params
    → IsFaultBy (fails method params) fault → HasItsStatus fault → MayEnd fails fault
over_by fails method params asked.Closed poll is has = λ e. cc
over_by fails method params asked.Output poll is has =
    λ _. record { method = method; params = params; poll = poll; why = _; came = is; ends = refl }
over_by fails method params (asked.Refused of code message) poll is has = λ never.
    record { method = method; params = params; poll = poll; why = _; came = is; ends = (polls_by_code of code has).1.0 never }
over_by fails method params asked.Unreadable poll is has = λ e. cc
over_by fails method params asked.TooManyPages poll is has = λ e. cc
over_by fails method params (asked.History fault) poll is has = λ e. cc
over_by fails method params asked.OutOfMemory poll is has = λ e. cc

never_unreadable : (fails : Fails) (fault : AskFault) → fault ≡ asked.Unreadable → MayEnd fails fault
never_unreadable fails fault is = subst (MayEnd fails) (sym is) (λ e. cc)

never_closed : (fails : Fails) (fault : AskFault) → fault ≡ asked.Closed → MayEnd fails fault
never_closed fails fault is = subst (MayEnd fails) (sym is) (λ e. cc)

-- the same for a poll of a queue
pub workflow_over : {A : Type 0} (gives : Gives) (fails : Fails) (names : WorkerNames) (sticky : Bool) (taken : Result A AskFault)
    → IfErr taken (IsWorkflowFault gives fails names sticky) → IfErr taken HasItsStatus → IfErr taken (MayEnd fails)
workflow_over gives fails names sticky (Ok poll) is has = tt
workflow_over gives fails names sticky (Err fault) (inl is) has =
    over_by fails (codes "PollWorkflowTaskQueue") (poll_workflow names sticky) fault (names, inl (sticky, refl, refl)) is has
workflow_over gives fails names sticky (Err fault) (inr (inl is)) has = never_unreadable fails fault is.0
workflow_over gives fails names sticky (Err fault) (inr (inr is)) has = never_closed fails fault is.0

-- and for one for activity tasks
pub activity_over : {A : Type 0} (gives : Gives) (fails : Fails) (names : WorkerNames) (taken : Result A AskFault)
    → IfErr taken (IsActivityFault gives fails names) → IfErr taken HasItsStatus → IfErr taken (MayEnd fails)
activity_over gives fails names (Ok poll) is has = tt
activity_over gives fails names (Err fault) (inl is) has =
    over_by fails (codes "PollActivityTaskQueue") (poll_activity names) fault (names, inr (refl, refl)) is has
activity_over gives fails names (Err fault) (inr is) has = never_unreadable fails fault is.0

ends_over : (fails : Fails) (end : PollEnd) (old new : Bool) → (end ≡ Never → IsPollingOver fails) → new ≡ ended_by end old
    → IsOverIfEnded fails old → IsOverIfEnded fails new
ends_over fails Closed old new may is was = λ ended. was (sym is ∙ ended)
ends_over fails Later old new may is was = λ ended. was (sym is ∙ ended)
ends_over fails Never old new may is was = λ _. may refl

-- a poll ends its source only if it has shown that no later one can succeed
pub over_if_ended : {A : Type 0} (fails : Fails) (taken : Result (PollResult A) AskFault) (old new : Bool) → IfErr taken (MayEnd fails)
    → new ≡ ended_after taken old → IsOverIfEnded fails old → IsOverIfEnded fails new
over_if_ended fails (Ok poll) old new may is was = λ ended. was (sym is ∙ ended)
over_if_ended fails (Err fault) old new may is was = ends_over fails (end_of fault) old new may is was

closed_end : {A : Type 0} (came : AskFault → Type 0) (fault : AskFault) (end : PollEnd) (given : Result (Polled A) SourceFault)
    → end_of fault ≡ end → came fault → HasItsStatus fault → EndsPoll end given → given ≡ Ok polled.Closed → EndsIn Closed came
closed_end came fault Closed given ends is has reports closed = record { fault = fault; is = is; status = has; ends = ends }
closed_end came fault Later given ends is has reports closed = cc
closed_end came fault Never given ends is has reports closed = absurd (true≢false (sym (subst IsErr closed reports)))

closed_poll : {A : Type 0} (came : AskFault → Type 0) (taken : Result (PollResult A) AskFault) (given : Result (Polled A) SourceFault)
    → IfErr taken came → IfErr taken HasItsStatus → Reports taken given → given ≡ Ok polled.Closed → EndsIn Closed came
closed_poll came (Ok (results.Task task)) given is has reports closed = cc
closed_poll came (Ok results.Empty) given is has reports closed = cc
closed_poll came (Ok results.Settled) given is has reports closed = cc
closed_poll came (Ok (results.Lost text)) given is has reports closed = cc
closed_poll came (Err fault) given is has reports closed = closed_end came fault (end_of fault) given refl is has reports closed

opened_closed : {A : Type 0} (given : Result (Polled (OpenTask × A)) SourceFault) (old : Option OpenTask)
    (result : Result (Polled A) SourceFault) (new : Option OpenTask) → IsOpened given old result new
    → result ≡ Ok polled.Closed → given ≡ Ok polled.Closed
opened_closed (Ok (polled.Task pair)) old result new is closed = let same = is.0 in cc
opened_closed (Ok polled.Nothing) old result new is closed = let same = is.0 in cc
opened_closed (Ok polled.Closed) old result new is closed = refl
opened_closed (Err fault) old result new is closed = let same = is.0 in cc

-- a source that a poll closes has come to a fault after which there are no more tasks
pub closed_by : {A : Type 0} (came : AskFault → Type 0) (taken : Result (PollResult (OpenTask × A)) AskFault)
    (given : Result (Polled (OpenTask × A)) SourceFault) (old : Option OpenTask) (result : Result (Polled A) SourceFault)
    (new : Option OpenTask) → IfErr taken came → IfErr taken HasItsStatus → Reports taken given → IsOpened given old result new
    → result ≡ Ok polled.Closed → EndsIn Closed came
closed_by came taken given old result new is has reports opened closed =
    closed_poll came taken given is has reports (opened_closed given old result new opened closed)
