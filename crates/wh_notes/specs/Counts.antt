-- What is counted of the polls and the answers of workers, one after another.
use Rattle.std.specs.Prelude.{ℕ}
use Rattle.wh_client.specs.declared.answers.AnswerKind.{AnswerKind}
use Rattle.wh_client.specs.declared.answers.AnswerKind.TheVariants.{WorkflowCompletion, WorkflowFailure, ActivityCompletion, ActivityFailure}
use Rattle.wh_client.specs.declared.answers.SentAnswer.{SentAnswer}
use Rattle.wh_client.specs.declared.codes.Receipt.{Receipt}
use Rattle.wh_client.specs.declared.codes.Receipt.TheVariants as receipt
use Rattle.wh_client.specs.declared.notes.PollOutcome.{PollOutcome}
use Rattle.wh_client.specs.declared.notes.PollOutcome.TheVariants.{Empty, Task, Failure}
use Rattle.wh_client.specs.declared.notes.SourceNote.{SourceNote}
use Rattle.wh_client.specs.declared.notes.SourceNote.TheVariants.{Poll, Answer}
use Rattle.wh_notes.specs.Sums.{together}
use Rattle.wh_notes.specs.Times.{lasted, no_times, times_together}
use Rattle.wh_notes.specs.Untaken.{completes, none_untaken, untaken_together, with_untaken}
use Rattle.wh_notes.specs.declared.counts.SourceCounts.{SourceCounts}

-- sources have done nothing
abbrev pub no_source_counts : SourceCounts
no_source_counts = record {
  polls = 0;
  empty_polls = 0;
  untaken = none_untaken;
  workflow_times = no_times;
  activity_times = no_times;
}

-- a poll more, which was empty or not
abbrev pub with_poll : PollOutcome → SourceCounts → SourceCounts
with_poll Empty counts =
    record counts { polls = together counts.polls 1; empty_polls = together counts.empty_polls 1 }
with_poll Task counts = record counts { polls = together counts.polls 1 }
with_poll Failure counts = record counts { polls = together counts.polls 1 }

-- a task more that took so many microseconds, of the kind that such an answer is for
abbrev pub with_time : AnswerKind → (microseconds : ℕ) → SourceCounts → SourceCounts
with_time WorkflowCompletion microseconds counts =
    record counts { workflow_times = lasted microseconds counts.workflow_times }
with_time WorkflowFailure microseconds counts =
    record counts { workflow_times = lasted microseconds counts.workflow_times }
with_time ActivityCompletion microseconds counts =
    record counts { activity_times = lasted microseconds counts.activity_times }
with_time ActivityFailure microseconds counts =
    record counts { activity_times = lasted microseconds counts.activity_times }

-- an answer more that became this: its task is timed if the server took it, otherwise it is among those that were not
-- taken
abbrev pub with_receipt : Receipt → AnswerKind → (microseconds : ℕ) → SourceCounts → SourceCounts
with_receipt receipt.Acknowledged kind microseconds counts = with_time kind microseconds counts
with_receipt receipt.Discarded kind microseconds counts = with_time kind microseconds counts
with_receipt other kind microseconds counts =
    record counts { untaken = with_untaken other (completes kind) counts.untaken }

-- an answer more that was sent
abbrev pub with_answer : SentAnswer → SourceCounts → SourceCounts
with_answer answer counts = with_receipt answer.receipt answer.kind answer.microseconds counts

-- a note more
abbrev pub with_note : SourceNote → SourceCounts → SourceCounts
with_note (Poll outcome) counts = with_poll outcome counts
with_note (Answer answer) counts = with_answer answer counts

-- what two sources have counted
abbrev pub counts_together : SourceCounts → SourceCounts → SourceCounts
counts_together one other = record {
  polls = together one.polls other.polls;
  empty_polls = together one.empty_polls other.empty_polls;
  untaken = untaken_together one.untaken other.untaken;
  workflow_times = times_together one.workflow_times other.workflow_times;
  activity_times = times_together one.activity_times other.activity_times;
}
