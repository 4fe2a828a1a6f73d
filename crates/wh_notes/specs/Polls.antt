-- What a source reports for a poll.
use Rattle.std.specs.Prelude.{◌≡◌, ℕ, ◌+◌, Bool, true, List, [], ◌∷◌, ◌++◌, Result, Ok, Err, IsErr}
use Rattle.wh_client.specs.Calls.{Fails}
use Rattle.wh_client.specs.Codes.{poll_end}
use Rattle.wh_client.specs.Polls.{IsPollingOver}
use Rattle.wh_client.specs.declared.asking.AskFault.{AskFault}
use Rattle.wh_client.specs.declared.asking.AskFault.TheVariants as asked
use Rattle.wh_client.specs.declared.codes.PollEnd.{PollEnd}
use Rattle.wh_client.specs.declared.codes.PollEnd.TheVariants.{Closed, Never, Later}
use Rattle.wh_client.specs.declared.notes.PollOutcome.{PollOutcome}
use Rattle.wh_client.specs.declared.notes.PollOutcome.TheVariants as outcome
use Rattle.wh_client.specs.declared.notes.PollOutcome.TheVariants.{Failure}
use Rattle.wh_client.specs.declared.notes.SourceNote.{SourceNote}
use Rattle.wh_client.specs.declared.notes.SourceNote.TheVariants.{Poll}
use Rattle.wh_notes.specs.declared.results.PollResult.{PollResult}
use Rattle.wh_notes.specs.declared.results.PollResult.TheVariants.{Task, Empty, Settled, Lost}
use Rattle.wh_notes.specs.declared.troubles.Trouble.{Trouble}
use Rattle.wh_notes.specs.Troubles.{HasFailed}
use Rattle.wh_tasks.specs.declared.source.Polled.{Polled}
use Rattle.wh_tasks.specs.declared.source.Polled.TheVariants as polled
use Rattle.wh_tasks.specs.declared.source.SourceFault.{SourceFault}

-- what follows after a failed poll: if it was refused the status decides; otherwise a later poll may succeed, unless
-- the connection is gone
abbrev pub end_of : AskFault → PollEnd
end_of asked.Closed = Closed
end_of asked.Output = Never
end_of (asked.Refused status code message) = poll_end status
end_of asked.Unreadable = Later
end_of asked.TooManyPages = Later
end_of (asked.History fault) = Later
end_of asked.OutOfMemory = Later

-- polling fails for good only after a poll has shown that no later one can succeed
abbrev pub MayEnd : Fails → AskFault → Type 0
MayEnd fails fault = end_of fault ≡ Never → IsPollingOver fails

-- the source is closed, or has no task now, or it fails
abbrev pub EndsPoll : {A : Type 0} → PollEnd → Result (Polled A) SourceFault → Type 0
EndsPoll Closed result = result ≡ Ok polled.Closed
EndsPoll Later result = result ≡ Ok polled.Nothing
EndsPoll Never result = IsErr result

-- one more poll has failed in a row
abbrev pub FailsOnceMore : Trouble → Trouble → Type 0
FailsOnceMore old new = (count : ℕ) → HasFailed count old → HasFailed (count + 1) new

-- after a closed poll there is no wait; otherwise one more poll has failed
abbrev pub WaitsAfter : PollEnd → Trouble → Trouble → Type 0
WaitsAfter Closed old new = new ≡ old
WaitsAfter Later old new = FailsOnceMore old new
WaitsAfter Never old new = FailsOnceMore old new

-- a poll with a result ends the row of failed polls, unless its task is given up: then one more has failed
abbrev pub WaitsFor : {A : Type 0} → Result (PollResult A) AskFault → Trouble → Trouble → Type 0
WaitsFor (Ok (Task task)) old new = HasFailed 0 new
WaitsFor (Ok Empty) old new = HasFailed 0 new
WaitsFor (Ok Settled) old new = HasFailed 0 new
WaitsFor (Ok (Lost text)) old new = FailsOnceMore old new
WaitsFor (Err fault) old new = WaitsAfter (end_of fault) old new

-- a poll is noted once, by what it came to
abbrev pub NotesOutcome : PollOutcome → (old new : List SourceNote) → Type 0
NotesOutcome outcome old new = new ≡ old ++ Poll outcome ∷ []

-- a failed poll is noted as a failure, unless it was closed
abbrev pub NotesEnd : PollEnd → (old new : List SourceNote) → Type 0
NotesEnd Closed old new = new ≡ old
NotesEnd Later old new = NotesOutcome Failure old new
NotesEnd Never old new = NotesOutcome Failure old new

-- what the result of a poll is noted as: all but an empty one came with a task or a query
abbrev pub outcome_of : {A : Type 0} → PollResult A → PollOutcome
outcome_of (Task task) = outcome.Task
outcome_of Empty = outcome.Empty
outcome_of Settled = outcome.Task
outcome_of (Lost text) = outcome.Task

-- a poll is noted once, unless it was closed: the bridge had closed, also before all pages of its task were fetched, or
-- refused it with code 1
abbrev pub NotesPoll : {A : Type 0} → Result (PollResult A) AskFault → (old new : List SourceNote) → Type 0
NotesPoll (Ok poll) old new = NotesOutcome (outcome_of poll) old new
NotesPoll (Err fault) old new = NotesEnd (end_of fault) old new

-- a task is delivered; an empty or settled poll has none, nor one whose task is given up
abbrev pub polled_of : {A : Type 0} → PollResult A → Polled A
polled_of (Task task) = polled.Task task
polled_of Empty = polled.Nothing
polled_of Settled = polled.Nothing
polled_of (Lost text) = polled.Nothing

-- what the source reports for the result of a poll
abbrev pub Reports : {A : Type 0} → Result (PollResult A) AskFault → Result (Polled A) SourceFault → Type 0
Reports (Ok poll) result = result ≡ Ok (polled_of poll)
Reports (Err fault) result = EndsPoll (end_of fault) result

-- ---- The end of a source

-- a source is ended by a poll after which no later one can succeed; any other leaves it as it was
abbrev pub ended_by : PollEnd → Bool → Bool
ended_by Closed ended = ended
ended_by Later ended = ended
ended_by Never ended = true

-- the same by the result of a poll
abbrev pub ended_after : {A : Type 0} → Result (PollResult A) AskFault → Bool → Bool
ended_after (Ok poll) ended = ended
ended_after (Err fault) ended = ended_by (end_of fault) ended

-- a source is ended only if a poll has shown that no later one can succeed
abbrev pub IsOverIfEnded : Fails → Bool → Type 0
IsOverIfEnded fails ended = ended ≡ true → IsPollingOver fails
