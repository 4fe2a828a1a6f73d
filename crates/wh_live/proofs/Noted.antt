-- What polls note.
use Rattle.std.proofs.Common.{◌≡◌, ◌≢◌, ◌∙◌, ◌⊎◌, ◌∷◌, ◌++◌, [], Bool, Option, Some, Result, Ok, Err, IfErr, IfOk, IsErr, ap, inl, inr, refl, subst, sym, true≢false}
use Rattle.std.specs.Prelude.{⊤}
use Rattle.wh_client.specs.Calls.{Fails, Gives}
use Rattle.wh_client.specs.Polls.{IsActivityPoll, IsWorkflowPoll}
use Rattle.wh_client.specs.Refusals.{HasItsStatus}
use Rattle.wh_client.specs.declared.asking.AskFault.{AskFault}
use Rattle.wh_client.specs.declared.asking.AskFault.TheVariants as asked
use Rattle.wh_client.specs.declared.codes.PollEnd.{PollEnd}
use Rattle.wh_client.specs.declared.codes.PollEnd.TheVariants.{Closed, Later, Never}
use Rattle.wh_client.specs.declared.notes.PollOutcome.{PollOutcome}
use Rattle.wh_client.specs.declared.notes.PollOutcome.TheVariants as outcome
use Rattle.wh_client.specs.declared.notes.SourceNote.TheVariants.{Poll}
use Rattle.wh_commands.specs.declared.names.WorkerNames.{WorkerNames}
use Rattle.wh_live.specs.Private.Noting.{Notes, NotesMalformed, NotesPolled, NotesTaken, Shows}
use Rattle.wh_live.specs.Private.Opening.{ActivitiesCameTo, CameTo, HasActivityResult, HasPollResult, IsActivityFault, IsFilled, IsOpened, IsTask, IsWorkflowFault, MayBring, MayBringActivity, MayOpen, QueueCameTo}
use Rattle.wh_messages.specs.Responses as read
use Rattle.wh_notes.specs.Polls.{EndsPoll, NotesEnd, NotesPoll, Reports, end_of}
use Rattle.wh_live.specs.declared.tasks.OpenTask.{OpenTask}
use Rattle.wh_notes.specs.declared.results.PollResult.{PollResult}
use Rattle.wh_notes.specs.declared.results.PollResult.TheVariants as results
use Rattle.wh_messages.specs.declared.response.ActivityPoll.{ActivityPoll}
use Rattle.wh_messages.specs.declared.response.ActivityPoll.TheVariants as polls
use Rattle.wh_tasks.specs.declared.source.Polled.{Polled}
use Rattle.wh_tasks.specs.declared.source.Polled.TheVariants as polled
use Rattle.wh_tasks.specs.declared.source.SourceFault.{SourceFault}

-- what is noted before a poll that fails: nothing, unless there was no memory
abbrev BeforeFault : Shows → AskFault → (old between : Notes) → Type 0
BeforeFault shows fault old between = (between ≡ old) ⊎ ((fault ≡ asked.OutOfMemory) × NotesMalformed shows old between)

nothing_before_closed : (shows : Shows) (fault : AskFault) (old between : Notes) → end_of fault ≡ Closed
    → BeforeFault shows fault old between → between ≡ old
nothing_before_closed shows fault old between closed (inl same) = same
nothing_before_closed shows fault old between closed (inr before) =
    let later : end_of fault ≡ Later = ap end_of before.0 in cc

nothing_before_never : (shows : Shows) (fault : AskFault) (old between : Notes) → end_of fault ≡ Never
    → BeforeFault shows fault old between → between ≡ old
nothing_before_never shows fault old between never (inl same) = same
nothing_before_never shows fault old between never (inr before) =
    let later : end_of fault ≡ Later = ap end_of before.0 in cc

before_later : (shows : Shows) (fault : AskFault) (old between : Notes) → BeforeFault shows fault old between
    → (between ≡ old) ⊎ NotesMalformed shows old between
before_later shows fault old between (inl same) = inl same
before_later shows fault old between (inr before) = inr before.1

by_failure : {A : Type 0} (shows : Shows) (came : PollOutcome → Type 0) (given : Result (Polled A) SourceFault)
    (old between new : Notes) → between ≡ old → new ≡ between ++ Poll outcome.Failure ∷ [] → IsErr given
    → NotesPolled shows came given old new
by_failure shows came (Ok polled) old between new same noted is = absurd (true≢false (sym is))
by_failure shows came (Err fault) old between new same noted is = noted ∙ ap (λ l. l ++ Poll outcome.Failure ∷ []) same

-- what a poll that brought its worker no task came to, by its result
abbrev Comes : {A : Type 0} → (PollOutcome → Type 0) → Result (PollResult A) AskFault → Type 0
Comes came (Ok (results.Task task)) = ⊤
Comes came (Ok results.Empty) = came outcome.Empty
Comes came (Ok results.Settled) = came outcome.Task
Comes came (Ok (results.Lost text)) = came outcome.Task
Comes came (Err fault) = end_of fault ≡ Later → came outcome.Failure

by_end : {A : Type 0} (shows : Shows) (came : PollOutcome → Type 0) (fault : AskFault) (end : PollEnd)
    (given : Result (Polled A) SourceFault) (old between new : Notes) → end_of fault ≡ end
    → (end_of fault ≡ Later → came outcome.Failure) → BeforeFault shows fault old between → NotesEnd end between new
    → EndsPoll end given → NotesPolled shows came given old new
by_end shows came fault Closed given old between new is comes before noted ends =
    subst (λ r. NotesPolled shows came r old new) (sym ends) (noted ∙ nothing_before_closed shows fault old between is before)
by_end shows came fault Later given old between new is comes before noted ends =
    subst (λ r. NotesPolled shows came r old new) (sym ends) (record {
      of = outcome.Failure;
      is = comes is;
      between = between;
      before = before_later shows fault old between before;
      noted = noted;
    })
by_end shows came fault Never given old between new is comes before noted ends =
    by_failure shows came given old between new (nothing_before_never shows fault old between is before) noted ends

-- a poll whose task was settled: it was failed, or there was a query
before_settled : {Q : Type 0} (shows : Shows) (old between : Notes) → NotesMalformed shows old between ⊎ (Q × (between ≡ old))
    → (between ≡ old) ⊎ NotesMalformed shows old between
before_settled shows old between (inl malformed) = inr malformed
before_settled shows old between (inr query) = inl query.1

by_poll : {A : Type 0} (gives : Gives) (shows : Shows) (came : PollOutcome → Type 0) (taken : Result (PollResult A) AskFault)
    (given : Result (Polled A) SourceFault) (old between new : Notes) → Comes came taken → NotesTaken gives shows taken old between
    → NotesPoll taken between new → Reports taken given → NotesPolled shows came given old new
by_poll gives shows came (Ok (results.Task task)) given old between new comes before noted reports =
    subst (λ r. NotesPolled shows came r old new) (sym reports) (noted ∙ ap (λ l. l ++ Poll outcome.Task ∷ []) before)
by_poll gives shows came (Ok results.Empty) given old between new comes before noted reports =
    subst (λ r. NotesPolled shows came r old new) (sym reports)
    (record { of = outcome.Empty; is = comes; between = between; before = before; noted = noted })
by_poll gives shows came (Ok results.Settled) given old between new comes before noted reports =
    subst (λ r. NotesPolled shows came r old new) (sym reports) (record {
      of = outcome.Task;
      is = comes;
      between = between;
      before = before_settled shows old between before;
      noted = noted;
    })
by_poll gives shows came (Ok (results.Lost text)) given old between new comes before noted reports =
    subst (λ r. NotesPolled shows came r old new) (sym reports)
    (record { of = outcome.Task; is = comes; between = between; before = inl before; noted = noted })
by_poll gives shows came (Err fault) given old between new comes before noted reports =
    by_end shows came fault (end_of fault) given old between new refl comes before noted reports

-- the same of what is delivered
by_opened : {A : Type 0} (shows : Shows) (came : PollOutcome → Type 0) (given : Result (Polled (OpenTask × A)) SourceFault)
    (was : Option OpenTask) (result : Result (Polled A) SourceFault) (is : Option OpenTask) (old new : Notes)
    → IsOpened given was result is → NotesPolled shows came given old new → NotesPolled shows came result old new
by_opened shows came (Ok (polled.Task pair)) was result is old new opened noted =
    subst (λ r. NotesPolled shows came r old new) (sym opened.0) noted
by_opened shows came (Ok polled.Nothing) was result is old new opened noted =
    subst (λ r. NotesPolled shows came r old new) (sym opened.0) noted
by_opened shows came (Ok polled.Closed) was result is old new opened noted =
    subst (λ r. NotesPolled shows came r old new) (sym opened.0) noted
by_opened shows came (Err fault) was result is old new opened noted =
    subst (λ r. NotesPolled shows came r old new) (sym opened.0) noted

-- a poll notes itself by what its source reports
pub noted_polled : {A : Type 0} (gives : Gives) (shows : Shows) (came : PollOutcome → Type 0)
    (taken : Result (PollResult (OpenTask × A)) AskFault) (given : Result (Polled (OpenTask × A)) SourceFault)
    (was : Option OpenTask) (result : Result (Polled A) SourceFault) (is : Option OpenTask) (old between new : Notes)
    → Comes came taken → NotesTaken gives shows taken old between → NotesPoll taken between new → Reports taken given
    → IsOpened given was result is → NotesPolled shows came result old new
noted_polled gives shows came taken given was result is old between new comes before noted reports opened =
    by_opened shows came given was result is old new opened
    (by_poll gives shows came taken given old between new comes before noted reports)

-- ---- What polls came to

module _ (gives : Gives) (fails : Fails) (names : WorkerNames) where
  -- an empty result is that of an empty response
  from_empty : {A : Type 0} (poll : read.Poll) (brings : PollResult A) → brings ≡ results.Empty
      → MayBring gives fails names poll brings → poll ≡ read.nothing
  from_empty read.nothing brings is may = refl
  from_empty (read.task polled) brings is may = absurd (subst (MayOpen gives fails names polled) is may)
  from_empty (read.query token result) brings is may = let no = sym is ∙ may in cc
  from_empty read.unreadable brings is may = absurd may

  -- any other is that of a task or a query
  from_filled : {A : Type 0} (poll : read.Poll) (brings : PollResult A) → brings ≢ results.Empty
      → MayBring gives fails names poll brings → IsFilled poll
  from_filled read.nothing brings some may = absurd (some may)
  from_filled (read.task polled) brings some may = tt
  from_filled (read.query token result) brings some may = tt
  from_filled read.unreadable brings some may = absurd may

  came_to : {A : Type 0} (sticky : Bool) (taken : Result (PollResult A) AskFault)
      → IfOk taken (HasPollResult gives fails names sticky) → IfErr taken (IsWorkflowFault gives fails names sticky)
      → IfErr taken HasItsStatus → Comes (CameTo gives fails names sticky) taken
  came_to sticky (Ok (results.Task task)) has failed status = tt
  came_to sticky (Ok results.Empty) has failed status =
      subst (IsWorkflowPoll gives names sticky) (from_empty has.poll results.Empty refl has.may) has.given
  came_to sticky (Ok results.Settled) has failed status =
      (has.poll, from_filled has.poll results.Settled (λ e. cc) has.may, has.given)
  came_to sticky (Ok (results.Lost text)) has failed status =
      (has.poll, from_filled has.poll (results.Lost text) (λ e. cc) has.may, has.given)
  came_to sticky (Err fault) has failed status = λ later. record { fault = fault; is = failed; status = status; ends = later }

  pub queue_came_to : {A : Type 0} (queue : Option Bool) (sticky : Bool) (taken : Result (PollResult A) AskFault)
      → queue ≡ Some sticky → IfOk taken (HasPollResult gives fails names sticky)
      → IfErr taken (IsWorkflowFault gives fails names sticky) → IfErr taken HasItsStatus
      → Comes (QueueCameTo gives fails names queue) taken
  queue_came_to queue sticky taken is has failed status =
      subst (λ q. Comes (QueueCameTo gives fails names q) taken) (sym is) (came_to sticky taken has failed status)

-- each activity task is delivered
not_settled : {A : Type 0} (poll : ActivityPoll) (brings : PollResult A) → brings ≢ results.Empty → (IsTask brings → ⊥)
    → MayBringActivity poll brings → ⊥
not_settled polls.Nothing brings some untasked may = some may
not_settled (polls.Task task) brings some untasked may = untasked may
not_settled polls.Unreadable brings some untasked may = may

from_no_activity : {A : Type 0} (poll : ActivityPoll) (brings : PollResult A) → brings ≡ results.Empty
    → MayBringActivity poll brings → poll ≡ polls.Nothing
from_no_activity polls.Nothing brings is may = refl
from_no_activity (polls.Task task) brings is may = absurd (subst IsTask is may)
from_no_activity polls.Unreadable brings is may = absurd may

pub activities_came_to : {A : Type 0} (gives : Gives) (fails : Fails) (names : WorkerNames)
    (taken : Result (PollResult A) AskFault) → IfOk taken (HasActivityResult gives names)
    → IfErr taken (IsActivityFault gives fails names) → IfErr taken HasItsStatus
    → Comes (ActivitiesCameTo gives fails names) taken
activities_came_to gives fails names (Ok (results.Task task)) has failed status = tt
activities_came_to gives fails names (Ok results.Empty) has failed status =
    subst (IsActivityPoll gives names) (from_no_activity has.poll results.Empty refl has.may) has.given
activities_came_to gives fails names (Ok results.Settled) has failed status =
    not_settled has.poll results.Settled (λ e. cc) (λ no. no) has.may
activities_came_to gives fails names (Ok (results.Lost text)) has failed status =
    not_settled has.poll (results.Lost text) (λ e. cc) (λ no. no) has.may
activities_came_to gives fails names (Err fault) has failed status =
    λ later. record { fault = fault; is = failed; status = status; ends = later }

-- before a poll for activity tasks nothing is noted
pub nothing_before_activity : {A : Type 0} (gives : Gives) (shows : Shows) (names : WorkerNames)
    (taken : Result (PollResult A) AskFault) (notes : Notes) → IfOk taken (HasActivityResult gives names)
    → NotesTaken gives shows taken notes notes
nothing_before_activity gives shows names (Ok (results.Task task)) notes has = refl
nothing_before_activity gives shows names (Ok results.Empty) notes has = refl
nothing_before_activity gives shows names (Ok results.Settled) notes has =
    absurd (not_settled has.poll results.Settled (λ e. cc) (λ no. no) has.may)
nothing_before_activity gives shows names (Ok (results.Lost text)) notes has = refl
nothing_before_activity gives shows names (Err fault) notes has = inl refl
