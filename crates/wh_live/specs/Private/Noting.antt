-- What a source notes of its polls, and of the answers that it sends.
use Rattle.std.specs.Prelude.{◌≡◌, ◌≢◌, ◌⊎◌, ◌↔◌, ◌<◌, ◌++◌, ◌∷◌, ◌-◌, [], ℕ, List, Bool, true, false, Option, Some, None, Result, Ok, Err}
use Rattle.std.specs.List.{list_any}
use Rattle.serde_json.specs.Data.{Data}
use Rattle.wh_client.specs.Calls.{Fails, Gives}
use Rattle.wh_client.specs.Histories.{CanNotBeRead, IsWhole}
use Rattle.wh_client.specs.Pages.{ReadsNotOn}
use Rattle.wh_client.specs.Polls.{GivesQuery}
use Rattle.wh_client.specs.declared.answers.AnswerKind.{AnswerKind}
use Rattle.wh_client.specs.declared.answers.AnswerKind.TheVariants.{WorkflowCompletion, WorkflowFailure}
use Rattle.wh_client.specs.declared.asking.AskFault.{AskFault}
use Rattle.wh_client.specs.declared.asking.AskFault.TheVariants as asked
use Rattle.wh_client.specs.declared.codes.Receipt.{Receipt}
use Rattle.wh_client.specs.declared.codes.Receipt.TheVariants.{NoMemory, Replaced, Withheld}
use Rattle.wh_client.specs.declared.notes.PollOutcome.{PollOutcome}
use Rattle.wh_client.specs.declared.notes.PollOutcome.TheVariants as outcome
use Rattle.wh_client.specs.declared.notes.SourceNote.{SourceNote}
use Rattle.wh_client.specs.declared.notes.SourceNote.TheVariants.{Poll, Answer as AnAnswer}
use Rattle.wh_commands.specs.CarryingOver.{continues}
use Rattle.wh_commands.specs.declared.names.WorkerNames.{WorkerNames}
use Rattle.wh_events.specs.declared.key.RunKey.{RunKey}
use Rattle.wh_messages.specs.declared.request.FailedCause.TheVariants.{Unhandled}
use Rattle.wh_messages.specs.declared.response.QueryPoll.{QueryPoll}
use Rattle.wh_replay.specs.declared.run.Answer.{Answer}
use Rattle.wh_replay.specs.declared.run.Answer.TheVariants.{Complete, Fail}
use Rattle.wh_slots.specs.declared.TaskName.{TaskName}
use Rattle.wh_tasks.specs.declared.source.ActivityAnswer.{ActivityAnswer}
use Rattle.wh_tasks.specs.declared.source.Polled.{Polled}
use Rattle.wh_tasks.specs.declared.source.Polled.TheVariants as polled
use Rattle.wh_tasks.specs.declared.source.SourceFault.{SourceFault}
use Rattle.wh_workflow.specs.declared.command.Command.{Command}
use Rattle.wh_live.specs.Kinds.{kind_of}
use Rattle.wh_live.specs.Private.Answering.{FailsTask, IsNotOpen, IsUnsent}
use Rattle.wh_live.specs.declared.tasks.OpenTask.{OpenTask}
use Rattle.wh_notes.specs.Tallies.{with_failure}
use Rattle.wh_notes.specs.declared.results.PollResult.{PollResult}
use Rattle.wh_notes.specs.declared.results.PollResult.TheVariants.{Task, Empty, Settled, Lost}
use Rattle.wh_notes.specs.declared.tallies.Tally.{Tally}

-- all that a source has noted
abbrev pub Notes : Type 0
Notes = List SourceNote

-- which times a clock may show
abbrev pub Shows : Type 1
Shows = ℕ → Type 0

-- an answer of a kind that was sent, and became this, is noted once: with the time that a clock showed then, less the
-- one at which its task came
pub record NotesAnswer (shows : Shows) (since : ℕ) (kind : AnswerKind) (receipt : Receipt) (old new : Notes) : Type 0 where
  pub sent : receipt ≢ Withheld
  pub kept : receipt ≢ Replaced
  pub now : ℕ
  pub shown : shows now
  pub noted : new ≡ old ++ AnAnswer (record { kind = kind; receipt = receipt; microseconds = now - since }) ∷ []

-- an answer of a kind is noted once, unless there was no memory to write it: then nothing is noted
abbrev pub NotesWritten : Shows → (since : ℕ) → AnswerKind → Receipt → (old new : Notes) → Type 0
NotesWritten shows since kind receipt old new =
    NotesAnswer shows since kind receipt old new ⊎ ((receipt ≡ NoMemory) × (new ≡ old))

-- a failure is noted so, unless it is withheld: then nothing is noted
abbrev pub NotesFailure : Shows → (since : ℕ) → Receipt → (old new : Notes) → Type 0
NotesFailure shows since receipt old new =
    NotesWritten shows since WorkflowFailure receipt old new ⊎ ((receipt ≡ Withheld) × (new ≡ old))

-- an answer was replaced by a failure, which alone is noted, unless there was no memory for it
abbrev pub IsReplacedBy : (failure receipt : Receipt) → Type 0
IsReplacedBy failure receipt =
    ((failure ≢ NoMemory) × (receipt ≡ Replaced)) ⊎ ((failure ≡ NoMemory) × (receipt ≡ NoMemory))

pub record NotesReplaced (shows : Shows) (since : ℕ) (receipt : Receipt) (old new : Notes) : Type 0 where
  pub failure : Receipt
  pub replaces : IsReplacedBy failure receipt
  pub noted : NotesFailure shows since failure old new

-- a completion is noted once, or the failure that replaces it
abbrev pub NotesCompletion : Shows → (since : ℕ) → Receipt → (old new : Notes) → Type 0
NotesCompletion shows since receipt old new =
    NotesAnswer shows since WorkflowCompletion receipt old new ⊎ NotesReplaced shows since receipt old new

-- the same of a completion with these commands; nothing is noted if it could not be sent, since it is not known what the
-- run carries over
abbrev pub NotesCommands : Gives → Fails → Shows → WorkerNames → OpenTask → List Command → Receipt → (old new : Notes) → Type 0
NotesCommands gives fails shows names task commands receipt old new =
    NotesCompletion shows task.since receipt old new
    ⊎ ((list_any continues commands ≡ true) × IsUnsent gives fails names task.run receipt × (new ≡ old))

-- the answer to a workflow task is noted by what it is
abbrev pub NotesReply : Gives → Fails → Shows → WorkerNames → Answer → OpenTask → Receipt → (old new : Notes) → Type 0
NotesReply gives fails shows names (Complete commands) task receipt old new =
    NotesCommands gives fails shows names task commands receipt old new
NotesReply gives fails shows names (Fail fault) task receipt old new = NotesFailure shows task.since receipt old new

-- the answer to the open task is noted, if that has this name; otherwise nothing is
abbrev pub NotesOpen : (OpenTask → Receipt → Notes → Notes → Type 0) → Option OpenTask → TaskName → Receipt
    → (old new : Notes) → Type 0
NotesOpen notes open_task name receipt old new =
    ((task : OpenTask) × (open_task ≡ Some task) × (task.name ≡ name) × notes task receipt old new)
    ⊎ (IsNotOpen open_task name × (new ≡ old))

-- the answer to an activity task is noted as what it is
abbrev pub NotesActivity : Shows → ActivityAnswer → OpenTask → Receipt → (old new : Notes) → Type 0
NotesActivity shows answer task receipt old new = NotesWritten shows task.since (kind_of answer) receipt old new

-- ---- Histories that can not be read

-- a task that came at a time that a clock showed is failed for its malformed history, and that is noted
pub record NotesMalformed (shows : Shows) (old new : Notes) : Type 0 where
  pub since : ℕ
  pub came : shows since
  pub receipt : Receipt
  pub noted : NotesFailure shows since receipt old new

-- what is noted before the poll itself: if its task is settled, that it was failed, unless the poll gave a query; and
-- nothing otherwise, but that there may be no memory to fail the task
abbrev pub NotesTaken : {A : Type 0} → Gives → Shows → Result (PollResult A) AskFault → (old new : Notes) → Type 0
NotesTaken gives shows (Ok (Task task)) old new = new ≡ old
NotesTaken gives shows (Ok Empty) old new = new ≡ old
NotesTaken gives shows (Ok Settled) old new =
    NotesMalformed shows old new ⊎ (((query : QueryPoll) × GivesQuery gives query) × (new ≡ old))
NotesTaken gives shows (Ok (Lost text)) old new = new ≡ old
NotesTaken gives shows (Err fault) old new =
    (new ≡ old) ⊎ ((fault ≡ asked.OutOfMemory) × NotesMalformed shows old new)

-- the open task is failed for its malformed history, which is noted; that counts as a fault of the source exactly if
-- there was no memory for it
pub record FailsUnread (gives : Gives) (fails : Fails) (shows : Shows) (names : WorkerNames) (task : OpenTask)
    (counts : Bool) (old new : Notes) : Type 0 where
  pub receipt : Receipt
  pub later : receipt ≢ NoMemory → (receipt ≡ Withheld) ↔ (1 < task.attempt)
  pub sent : receipt ≢ Withheld → FailsTask gives fails names task.token Unhandled receipt
  pub noted : NotesFailure shows task.since receipt old new
  pub counted : (counts ≡ true) ↔ (receipt ≡ NoMemory)

-- whether a history that could not be fetched counts as a fault of the source, and what is noted of it: it is such a
-- fault unless the bridge has closed, or the open task was failed for malformed events, which alone is noted
abbrev pub SettlesUnread : Gives → Fails → Shows → WorkerNames → Option OpenTask → AskFault → (counts : Bool)
    → (old new : Notes) → Type 0
SettlesUnread gives fails shows names None fault counts old new = (counts ≡ true) × (new ≡ old)
SettlesUnread gives fails shows names (Some task) asked.Closed counts old new = (counts ≡ false) × (new ≡ old)
SettlesUnread gives fails shows names (Some task) asked.Output counts old new = (counts ≡ true) × (new ≡ old)
SettlesUnread gives fails shows names (Some task) (asked.Refused status code message) counts old new =
    (counts ≡ true) × (new ≡ old)
SettlesUnread gives fails shows names (Some task) asked.Unreadable counts old new = (counts ≡ true) × (new ≡ old)
SettlesUnread gives fails shows names (Some task) asked.TooManyPages counts old new = (counts ≡ true) × (new ≡ old)
SettlesUnread gives fails shows names (Some task) (asked.History fault) counts old new =
    FailsUnread gives fails shows names task counts old new
SettlesUnread gives fails shows names (Some task) asked.OutOfMemory counts old new = (counts ≡ true) × (new ≡ old)

-- the tally and the notes after a history could not be fetched
pub record CountsUnread (gives : Gives) (fails : Fails) (shows : Shows) (names : WorkerNames)
    (open_task : Option OpenTask) (fault : AskFault) (old_tally new_tally : Tally) (old new : Notes) : Type 0 where
  pub counts : Bool
  pub settles : SettlesUnread gives fails shows names open_task fault counts old new
  pub tally : new_tally ≡ with_failure counts old_tally

-- why there is no history of a run: not all of its pages could be fetched, or all could, and they can't be read
abbrev pub IsUnfetched : Gives → Fails → WorkerNames → RunKey → AskFault → Type 0
IsUnfetched gives fails names run fault =
    ReadsNotOn gives fails names run [] fault
    ⊎ ((members : List Data) × IsWhole gives names run members × CanNotBeRead members fault)

-- nothing is counted or noted of a history that was fetched; otherwise what is, by why there is none
abbrev pub CountsFetch : {A : Type 0} → Gives → Fails → Shows → WorkerNames → RunKey → Result A SourceFault
    → Option OpenTask → (old_tally new_tally : Tally) → (old new : Notes) → Type 0
CountsFetch gives fails shows names run (Ok history) open_task old_tally new_tally old new =
    (new_tally ≡ old_tally) × (new ≡ old)
CountsFetch gives fails shows names run (Err failure) open_task old_tally new_tally old new =
    (fault : AskFault) × IsUnfetched gives fails names run fault
    × CountsUnread gives fails shows names open_task fault old_tally new_tally old new

-- ---- Polls

-- what may be noted before a poll without a task notes itself: that its task was failed for its malformed history,
-- unless the poll was empty
abbrev pub MayPrecede : Shows → PollOutcome → (old new : Notes) → Type 0
MayPrecede shows outcome.Empty old new = new ≡ old
MayPrecede shows outcome.Task old new = (new ≡ old) ⊎ NotesMalformed shows old new
MayPrecede shows outcome.Failure old new = (new ≡ old) ⊎ NotesMalformed shows old new

-- a poll that brought its worker no task notes what it came to, last
pub record NotesNoTask (shows : Shows) (came : PollOutcome → Type 0) (old new : Notes) : Type 0 where
  pub of : PollOutcome
  pub is : came of
  pub between : Notes
  pub before : MayPrecede shows of old between
  pub noted : new ≡ between ++ Poll of ∷ []

-- a poll notes itself, last, by what its source reports: a task, a failure, or, where there is no task, what it came to.
-- A closed poll notes nothing
abbrev pub NotesPolled : {A : Type 0} → Shows → (came : PollOutcome → Type 0) → Result (Polled A) SourceFault
    → (old new : Notes) → Type 0
NotesPolled shows came (Ok (polled.Task task)) old new = new ≡ old ++ Poll outcome.Task ∷ []
NotesPolled shows came (Ok polled.Nothing) old new = NotesNoTask shows came old new
NotesPolled shows came (Ok polled.Closed) old new = new ≡ old
NotesPolled shows came (Err fault) old new = new ≡ old ++ Poll outcome.Failure ∷ []
