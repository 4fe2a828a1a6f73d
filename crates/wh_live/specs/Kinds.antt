-- The kinds of answers, as a source is sent them and as it notes them.
use Rattle.std.specs.Prelude.{Bool, List, [], ◌∷◌, if◌then◌else◌}
use Rattle.std.specs.List.{flat_map}
use Rattle.wh_client.specs.Codes.{is_taken}
use Rattle.wh_client.specs.declared.answers.AnswerKind.{AnswerKind}
use Rattle.wh_client.specs.declared.answers.AnswerKind.TheVariants.{WorkflowCompletion, WorkflowFailure, ActivityCompletion, ActivityFailure}
use Rattle.wh_client.specs.declared.notes.SourceNote.{SourceNote}
use Rattle.wh_client.specs.declared.notes.SourceNote.TheVariants.{Poll, Answer}
use Rattle.wh_replay.specs.declared.run.Answer.TheVariants.{Complete, Fail}
use Rattle.wh_slots.specs.declared.TaskName.{TaskName}
use Rattle.wh_tasks.specs.Source.{Answers}
use Rattle.wh_tasks.specs.declared.source.ActivityAnswer.{ActivityAnswer}
use Rattle.wh_tasks.specs.declared.source.ActivityAnswer.TheVariants.{Completed, Failed}
use Rattle.wh_tasks.specs.declared.source.Sent.{Sent}
use Rattle.wh_tasks.specs.declared.source.Sent.TheVariants.{Workflow, Activity}

-- which answer an activity task gets: that it failed is also told where its activity was canceled
abbrev pub kind_of : ActivityAnswer → AnswerKind
kind_of (Completed outcome) = ActivityCompletion
kind_of (Failed failure) = ActivityFailure

-- which answer a task gets
abbrev pub kind_of_sent : Sent → AnswerKind
kind_of_sent (Workflow (Complete commands)) = WorkflowCompletion
kind_of_sent (Workflow (Fail fault)) = WorkflowFailure
kind_of_sent (Activity answer) = kind_of answer

-- the kind alone, but none of a failure of a workflow task: that is withheld in a later attempt, and may be sent where
-- an answer can't be, or where a history can't be read
abbrev pub settled_kind : AnswerKind → List AnswerKind
settled_kind WorkflowCompletion = WorkflowCompletion ∷ []
settled_kind WorkflowFailure = []
settled_kind ActivityCompletion = ActivityCompletion ∷ []
settled_kind ActivityFailure = ActivityFailure ∷ []

abbrev pub kind_sent : TaskName × Sent → List AnswerKind
kind_sent answer = settled_kind (kind_of_sent answer.1)

-- the kinds of answers in their order, but for failures of workflow tasks
abbrev pub kinds_sent : Answers → List AnswerKind
kinds_sent answers = flat_map kind_sent answers

abbrev pub kind_noted : SourceNote → List AnswerKind
kind_noted (Poll outcome) = []
kind_noted (Answer answer) = if is_taken answer.receipt then settled_kind answer.kind else []

-- the kinds of the answers among notes that count as taken, in their order, but for failures of workflow tasks
abbrev pub kinds_noted : List SourceNote → List AnswerKind
kinds_noted notes = flat_map kind_noted notes
