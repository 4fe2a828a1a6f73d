-- What a source notes in a call, by kinds.
use Rattle.std.proofs.Common.{◌≡◌, ◌∙◌, ◌⊎◌, ◌≤◌, ◌+◌, ◌-◌, ◌∷◌, ◌++◌, [], ℕ, List, Bool, true, false, cond, if◌then◌else◌, length, Option, Some, None, option_map, Result, Ok, Err, IsErr, ap, append_assoc, append-nil, arith, count_by, flat_map, inl, inr, refl, subst, sym}
use Rattle.std.proofs.lemmas.Grind.{flat_map-append}
use Rattle.std.proofs.lemmas.List.Sums.{sum_by_push}
use Rattle.wh_client.specs.Calls.{Fails, Gives}
use Rattle.wh_client.specs.Codes.{is_taken}
use Rattle.wh_client.specs.declared.answers.AnswerKind.{AnswerKind}
use Rattle.wh_client.specs.declared.answers.AnswerKind.TheVariants.{WorkflowCompletion, WorkflowFailure}
use Rattle.wh_client.specs.declared.asking.AskFault.{AskFault}
use Rattle.wh_client.specs.declared.asking.AskFault.TheVariants as asked
use Rattle.wh_client.specs.declared.codes.Receipt.{Receipt}
use Rattle.wh_client.specs.declared.notes.PollOutcome.{PollOutcome}
use Rattle.wh_client.specs.declared.notes.PollOutcome.TheVariants as outcome
use Rattle.wh_client.specs.declared.notes.SourceNote.{SourceNote}
use Rattle.wh_client.specs.declared.notes.SourceNote.TheVariants.{Poll, Answer as AnAnswer}
use Rattle.wh_commands.specs.declared.names.WorkerNames.{WorkerNames}
use Rattle.wh_events.specs.declared.key.RunKey.{RunKey}
use Rattle.wh_notes.specs.Laws.{is_poll_with, is_task}
use Rattle.wh_notes.specs.Notes.{is_answer}
use Rattle.wh_notes.specs.declared.tallies.Tally.{Tally}
use Rattle.wh_replay.specs.declared.run.Answer.{Answer}
use Rattle.wh_replay.specs.declared.run.Answer.TheVariants.{Complete, Fail}
use Rattle.wh_slots.specs.declared.TaskName.{TaskName}
use Rattle.wh_tasks.specs.Source.{Answers}
use Rattle.wh_tasks.specs.declared.source.ActivityAnswer.{ActivityAnswer}
use Rattle.wh_tasks.specs.declared.source.Polled.{Polled}
use Rattle.wh_tasks.specs.declared.source.Polled.TheVariants as polled
use Rattle.wh_tasks.specs.declared.source.Sent.{Sent}
use Rattle.wh_tasks.specs.declared.source.Sent.TheVariants.{Workflow as OfWorkflow, Activity as OfActivity}
use Rattle.wh_tasks.specs.declared.source.SourceFault.{SourceFault}
use Rattle.wh_live.specs.Deliveries.{is_not_empty, open_count}
use Rattle.wh_live.specs.Kinds.{kind_noted, kind_of_sent, kinds_noted, kinds_sent, settled_kind}
use Rattle.wh_live.specs.Private.Answering.{IsOpenReceipt}
use Rattle.wh_live.specs.Private.Noting.{CountsFetch, IsReplacedBy, MayPrecede, Notes, NotesActivity, NotesAnswer, NotesCompletion, NotesFailure, NotesOpen, NotesPolled, NotesReply, NotesWritten, SettlesUnread, Shows}
use Rattle.wh_live.specs.Private.Opening.{KeepsLater, LeavesOpen, later_kept}
use Rattle.wh_live.specs.declared.tasks.OpenTask.{OpenTask}
use Rattle.wh_live.proofs.Faults.{unsent_by_fault}

-- ---- Answers

-- at most one answer is noted, of these kinds
pub record Adds (kinds : List AnswerKind) (old new : Notes) : Type 0 where
  pub more : Notes
  pub notes : new ≡ old ++ more
  pub are : kinds_noted more ≡ kinds
  pub one : count_by is_answer more ≤ 1

abbrev nothing : (kinds : List AnswerKind) (old new : Notes) → new ≡ old → kinds ≡ [] → Adds kinds old new
nothing kinds old new same none =
    record { more = []; notes = same ∙ sym (append-nil old); are = sym none; one = omega arith }

-- the kind of an answer, if that counts as taken
abbrev kinds_if : Bool → AnswerKind → List AnswerKind
kinds_if taken kind = (if taken then settled_kind kind else []) ++ []

by_note : (kind : AnswerKind) (of : Receipt) (microseconds : ℕ) (old new : Notes)
    → new ≡ old ++ AnAnswer (record { kind = kind; receipt = of; microseconds = microseconds }) ∷ []
    → Adds (kinds_if (is_taken of) kind) old new
by_note kind of microseconds old new noted = record {
  more = AnAnswer (record { kind = kind; receipt = of; microseconds = microseconds }) ∷ [];
  notes = noted;
  are = refl;
  one = omega arith;
}

not_taken : (kind : AnswerKind) (of : Receipt) → is_taken of ≡ false → kinds_if (is_taken of) kind ≡ []
not_taken kind of untaken = ap (λ b. kinds_if b kind) untaken

no_kind : (b : Bool) → kinds_if b WorkflowFailure ≡ []
no_kind true = refl
no_kind false = refl

by_written : (shows : Shows) (since : ℕ) (kind : AnswerKind) (of : Receipt) (old new : Notes)
    → NotesWritten shows since kind of old new → Adds (kinds_if (is_taken of) kind) old new
by_written shows since kind of old new (inl is) = by_note kind of (is.now - since) old new is.noted
by_written shows since kind of old new (inr none) =
    nothing (kinds_if (is_taken of) kind) old new none.1 (not_taken kind of (ap is_taken none.0))

by_failure : (shows : Shows) (since : ℕ) (of : Receipt) (old new : Notes) → NotesFailure shows since of old new → Adds [] old new
by_failure shows since of old new (inl written) =
    subst (λ kinds. Adds kinds old new) (no_kind (is_taken of)) (by_written shows since WorkflowFailure of old new written)
by_failure shows since of old new (inr withheld) = nothing [] old new withheld.1 refl

replaced_not_taken : (failure of : Receipt) → IsReplacedBy failure of → is_taken of ≡ false
replaced_not_taken failure of (inl is) = ap is_taken is.1
replaced_not_taken failure of (inr is) = ap is_taken is.1

by_completion : (shows : Shows) (since : ℕ) (of : Receipt) (old new : Notes) → NotesCompletion shows since of old new
    → Adds (kinds_if (is_taken of) WorkflowCompletion) old new
by_completion shows since of old new (inl is) = by_note WorkflowCompletion of (is.now - since) old new is.noted
by_completion shows since of old new (inr is) =
    subst (λ kinds. Adds kinds old new)
    (sym (not_taken WorkflowCompletion of (replaced_not_taken is.failure of is.replaces)))
    (by_failure shows since is.failure old new is.noted)

module _ (gives : Gives) (fails : Fails) (shows : Shows) (names : WorkerNames) where
  pub by_reply : (answer : Answer) (task : OpenTask) (of : Receipt) (old new : Notes)
      → NotesReply gives fails shows names answer task of old new
      → Adds (kinds_if (is_taken of) (kind_of_sent (OfWorkflow answer))) old new
  by_reply (Complete commands) task of old new (inl is) = by_completion shows task.since of old new is
  by_reply (Complete commands) task of old new (inr is) =
      let unsent = is.1 in
      let untaken : is_taken of ≡ false = ap is_taken unsent.is ∙ unsent_by_fault unsent.fault unsent.meaning in
      nothing (kinds_if (is_taken of) WorkflowCompletion) old new is.2 (not_taken WorkflowCompletion of untaken)
  by_reply (Fail fault) task of old new is =
      subst (λ kinds. Adds kinds old new) (sym (no_kind (is_taken of))) (by_failure shows task.since of old new is)

pub by_activity : (shows : Shows) (answer : ActivityAnswer) (task : OpenTask) (of : Receipt) (old new : Notes)
    → NotesActivity shows answer task of old new → Adds (kinds_if (is_taken of) (kind_of_sent (OfActivity answer))) old new
by_activity shows answer task of old new is = by_written shows task.since (kind_of_sent (OfActivity answer)) of old new is

-- ---- The answer to the open task

-- the answer, if it counts as taken
abbrev pub if_taken : Bool → TaskName × Sent → Answers
if_taken true one = one ∷ []
if_taken false one = []

kinds_of_one : (b : Bool) (one : TaskName × Sent) → kinds_if b (kind_of_sent one.1) ≡ kinds_sent (if_taken b one)
kinds_of_one true one = refl
kinds_of_one false one = refl

few_taken : (b : Bool) (one : TaskName × Sent) → length (if_taken b one) ≤ 1
few_taken true one = omega arith
few_taken false one = omega arith

-- how many tasks are open: one or none
abbrev pub opened : Option OpenTask → ℕ
opened open_task = open_count (option_map later_kept open_task)

-- an answer with this receipt is noted as the one that it is, if it counts as taken; and only one to an open task
pub record IsNotedAs (one : TaskName × Sent) (of : Receipt) (open_task : Option OpenTask) (old new : Notes) : Type 0 where
  pub adds : Adds (kinds_sent (if_taken (is_taken of) one)) old new
  pub sent : length (if_taken (is_taken of) one) ≤ opened open_task
  pub noted : count_by is_answer adds.more ≤ opened open_task

noted_open : (one : TaskName × Sent) (of : Receipt) (open_task : Option OpenTask) (task : OpenTask) (old new : Notes)
    → open_task ≡ Some task → Adds (kinds_sent (if_taken (is_taken of) one)) old new → IsNotedAs one of open_task old new
noted_open one of open_task task old new is adds =
    let some : opened open_task ≡ 1 = ap opened is in
    record {
      adds = adds;
      sent = omega (arith, some, few_taken (is_taken of) one);
      noted = omega (arith, some, adds.one);
    }

noted_lost : (one : TaskName × Sent) (of : Receipt) (open_task : Option OpenTask) (old new : Notes) → new ≡ old
    → is_taken of ≡ false → IsNotedAs one of open_task old new
noted_lost one of open_task old new same untaken =
    let none : length (if_taken (is_taken of) one) ≡ 0 = ap (λ b. length (if_taken b one)) untaken in
    record {
      adds = nothing (kinds_sent (if_taken (is_taken of) one)) old new same (ap (λ b. kinds_sent (if_taken b one)) untaken);
      sent = omega (arith, none);
      noted = omega arith;
    }

pub noted_as : (answers : OpenTask → Receipt → Type 0) (notes : OpenTask → Receipt → Notes → Notes → Type 0)
    (one : TaskName × Sent) (open_task : Option OpenTask) (name : TaskName) (of : Receipt) (old new : Notes)
    → ((task : OpenTask) → notes task of old new → Adds (kinds_if (is_taken of) (kind_of_sent one.1)) old new)
    → IsOpenReceipt answers open_task name of → NotesOpen notes open_task name of old new → IsNotedAs one of open_task old new
noted_as answers notes one open_task name of old new adds is (inl noted) =
    noted_open one of open_task noted.0 old new noted.1
    (subst (λ kinds. Adds kinds old new) (kinds_of_one (is_taken of) one) (adds noted.0 noted.3))
noted_as answers notes one open_task name of old new adds (inl is) (inr noted) =
    absurd (noted.0 is.task is.is is.named)
noted_as answers notes one open_task name of old new adds (inr is) (inr noted) =
    noted_lost one of open_task old new noted.1 (ap is_taken is.0)

-- ---- Polls and histories

-- no answer that counts as taken is noted but failures of workflow tasks, and no more answers and open tasks than polls
-- allow
pub record AddsPolls (was is : Option OpenTask) (old new : Notes) : Type 0 where
  pub more : Notes
  pub notes : new ≡ old ++ more
  pub none : kinds_noted more ≡ []
  pub polled : opened is ≤ count_by (is_poll_with is_task) more + opened was
  pub noted : count_by is_answer more + opened is ≤ count_by (is_poll_with is_not_empty) more + opened was

-- nothing is noted, and no task is opened
unnoted : (was is : Option OpenTask) (old new : Notes) → new ≡ old → opened is ≤ opened was → AddsPolls was is old new
unnoted was is old new same held =
    record { more = []; notes = same ∙ sym (append-nil old); none = refl; polled = omega (arith, held); noted = omega (arith, held) }

open_once : (open_task : Option OpenTask) → opened open_task ≤ 1
open_once None = omega arith
open_once (Some task) = omega arith

-- a poll that notes itself, last
with_poll : (of : PollOutcome) (was is : Option OpenTask) (old between new : Notes) (before : Adds [] old between)
    → new ≡ between ++ Poll of ∷ [] → opened is ≤ cond (is_task of) 1 0 + opened was
    → count_by is_answer before.more + opened is ≤ cond (is_not_empty of) 1 0 + opened was → AddsPolls was is old new
with_poll of was is old between new before noted held answered =
    let answers = sum_by_push (λ n. cond (is_answer n) 1 0) before.more (Poll of) in
    let tasks = sum_by_push (λ n. cond (is_poll_with is_task n) 1 0) before.more (Poll of) in
    let filled = sum_by_push (λ n. cond (is_poll_with is_not_empty n) 1 0) before.more (Poll of) in
    record {
      more = before.more ++ Poll of ∷ [];
      notes = noted ∙ (ap (λ l. l ++ Poll of ∷ []) before.notes ∙ append_assoc old before.more (Poll of ∷ []));
      none = flat_map-append kind_noted before.more (Poll of ∷ []) ∙ ap (λ l. l ++ []) before.are;
      polled = omega (arith, tasks, held);
      noted = omega (arith, answers, filled, answered);
    }

-- at most one answer is noted before a poll that was not empty
before_poll : (shows : Shows) (of : PollOutcome) (old between : Notes) → MayPrecede shows of old between
    → (before : Adds [] old between) × (count_by is_answer before.more ≤ cond (is_not_empty of) 1 0)
before_poll shows outcome.Empty old between same = (nothing [] old between same refl, omega arith)
before_poll shows outcome.Task old between (inl same) = (nothing [] old between same refl, omega arith)
before_poll shows outcome.Task old between (inr failed) =
    let before = by_failure shows failed.since failed.receipt old between failed.noted in (before, before.one)
before_poll shows outcome.Failure old between (inl same) = (nothing [] old between same refl, omega arith)
before_poll shows outcome.Failure old between (inr failed) =
    let before = by_failure shows failed.since failed.receipt old between failed.noted in (before, before.one)

pub by_polled : {A : Type 0} (shows : Shows) (came : PollOutcome → Type 0) (result : Result (Polled A) SourceFault)
    (was is : Option OpenTask) (old new : Notes) → NotesPolled shows came result old new → LeavesOpen result was is
    → AddsPolls was is old new
by_polled shows came (Ok (polled.Task task)) was is old new noted stays =
    let once = open_once is in
    with_poll outcome.Task was is old old new (nothing [] old old refl refl) noted (omega (arith, once)) (omega (arith, once))
by_polled shows came (Ok polled.Nothing) was is old new noted stays =
    let before = before_poll shows noted.of old noted.between noted.before in
    let same = ap opened stays in
    with_poll noted.of was is old noted.between new before.0 noted.noted (omega (arith, same)) (omega (arith, same, before.1))
by_polled shows came (Ok polled.Closed) was is old new noted stays =
    let same = ap opened stays in unnoted was is old new noted (omega (arith, same))
by_polled shows came (Err fault) was is old new noted stays =
    let same = ap opened stays in
    with_poll outcome.Failure was is old old new (nothing [] old old refl refl) noted (omega (arith, same)) (omega (arith, same))

module _ (gives : Gives) (fails : Fails) (shows : Shows) (names : WorkerNames) where
  -- a history that could not be fetched: only the open task may be failed
  by_unread : (was : Option OpenTask) (fault : AskFault) (counts : Bool) (old new : Notes)
      → SettlesUnread gives fails shows names was fault counts old new
      → (adds : Adds [] old new) × (count_by is_answer adds.more ≤ opened was)
  by_unread None fault counts old new is = (nothing [] old new is.1 refl, omega arith)
  by_unread (Some task) asked.Closed counts old new is = (nothing [] old new is.1 refl, omega arith)
  by_unread (Some task) asked.Output counts old new is = (nothing [] old new is.1 refl, omega arith)
  by_unread (Some task) (asked.Refused status code message) counts old new is = (nothing [] old new is.1 refl, omega arith)
  by_unread (Some task) asked.Unreadable counts old new is = (nothing [] old new is.1 refl, omega arith)
  by_unread (Some task) asked.TooManyPages counts old new is = (nothing [] old new is.1 refl, omega arith)
  by_unread (Some task) (asked.History why) counts old new is =
      let adds = by_failure shows task.since is.receipt old new is.noted in (adds, adds.one)
  by_unread (Some task) asked.OutOfMemory counts old new is = (nothing [] old new is.1 refl, omega arith)

  open_kept : (was is : Option OpenTask) → KeepsLater was is → opened is ≤ opened was
  open_kept was is (inl none) = let closed : opened is ≡ 0 = ap opened none in omega (arith, closed)
  open_kept was is (inr same) = let one : opened is ≡ opened was = ap open_count same in omega (arith, one)

  pub by_fetched : {A : Type 0} (result : Result A SourceFault) (was is : Option OpenTask) (old_tally new_tally : Tally)
      (old new : Notes) (run : RunKey) → CountsFetch gives fails shows names run result was old_tally new_tally old new → KeepsLater was is
      → (IsErr result → is ≡ None) → AddsPolls was is old new
  by_fetched (Ok history) was is old_tally new_tally old new run counts kept closed =
      unnoted was is old new counts.1 (open_kept was is kept)
  by_fetched (Err failure) was is old_tally new_tally old new run counts kept closed =
      let unread = by_unread was counts.0 counts.2.counts old new counts.2.settles in
      let none : opened is ≡ 0 = ap opened (closed refl) in
      record {
        more = unread.0.more;
        notes = unread.0.notes;
        none = unread.0.are;
        polled = omega (arith, none);
        noted = omega (arith, none, unread.1);
      }
