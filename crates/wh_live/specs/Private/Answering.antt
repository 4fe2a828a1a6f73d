-- What is sent for a task, and what becomes of it.
use Rattle.std.specs.Prelude.{◌≡◌, ◌≢◌, ◌↔◌, ◌⊎◌, ◌<◌, IsOk, IsTrue, ℕ, List, codes, not, Bool, true, false, Option, Some, None, Result, Ok, Err, string_bytes, if◌then◌else◌}
use Rattle.std.specs.List.{list_any}
use Rattle.std.specs.Str.{bytes_eq}
use Rattle.serde_json.specs.Data.{Data, Members, no_members, member}
use Rattle.serde_json.specs.View.{members_view, view}
use Rattle.wh_client.specs.Calls.{Fails, Gives}
use Rattle.wh_client.specs.Codes.{accepted_answer, is_taken, keeps_run}
use Rattle.wh_live.specs.Answers.{cause_of, receipt_of}
use Rattle.wh_client.specs.Histories.{CarriesUnknown, HandsOn}
use Rattle.wh_client.specs.Refusals.{HasNoMeaning}
use Rattle.wh_client.specs.declared.asking.AskFault.{AskFault}
use Rattle.wh_client.specs.declared.asking.AskFault.TheVariants as asked
use Rattle.wh_client.specs.declared.codes.Receipt.{Receipt}
use Rattle.wh_client.specs.declared.codes.Receipt.TheVariants.{Lost, NoMemory, Replaced, Withheld}
use Rattle.wh_client.specs.declared.codes.StatusCode.{StatusCode}
use Rattle.wh_client.specs.declared.codes.StatusCode.TheVariants as status
use Rattle.wh_client.specs.Requests.{WritesRequest}
use Rattle.wh_client.specs.declared.options.LiveOptions.{LiveOptions}
use Rattle.wh_client.specs.declared.requests.Request.{Request}
use Rattle.wh_commands.specs.declared.fault.RequestFault.{RequestFault}
use Rattle.wh_commands.specs.declared.fault.RequestFault.TheVariants as requests
use Rattle.wh_events.specs.declared.event.Event.{Event}
use Rattle.wh_events.specs.declared.key.RunKey.{RunKey}
use Rattle.wh_commands.specs.CarryingOver.{Carried, continues, nothing_carried}
use Rattle.wh_commands.specs.declared.names.WorkerNames.{WorkerNames}
use Rattle.wh_messages.specs.declared.request.FailedCause.{FailedCause}
use Rattle.wh_messages.specs.Requests.{workflow_completed, workflow_failed}
use Rattle.wh_replay.specs.declared.run.Answer.{Answer}
use Rattle.wh_replay.specs.declared.run.Answer.TheVariants.{Complete, Fail}
use Rattle.wh_slots.specs.declared.TaskName.{TaskName}
use Rattle.wh_tasks.specs.declared.source.RunUse.{RunUse}
use Rattle.wh_tasks.specs.declared.source.RunUse.TheVariants.{Cache, Discard}
use Rattle.wh_workflow.specs.declared.command.Command.{Command}
use Rattle.wh_notes.specs.declared.tallies.Tally.{Tally}
use Rattle.wh_live.specs.declared.tasks.OpenTask.{OpenTask}
use Rattle.wh_notes.specs.Tallies.{settled}
use Rattle.wh_live.specs.Private.Receipts.{IsReceiptOf, IsRefusedAsLarge}
use Rattle.wh_tasks.specs.declared.source.SourceFault.{SourceFault}

-- ---- What is sent

-- the task was failed instead of answered, unless there was no memory
abbrev pub IsReplaced : Receipt → Type 0
IsReplaced receipt = (receipt ≡ Replaced) ⊎ (receipt ≡ NoMemory)

-- what became of a completion, by what is written for it: a request; or a fault, and the task is failed instead
abbrev pub IsCompletion : Gives → Fails → Result Data RequestFault → Receipt → Type 0
IsCompletion gives fails (Ok params) receipt =
    IsReceiptOf gives fails (codes "RespondWorkflowTaskCompleted") params receipt
IsCompletion gives fails (Err fault) receipt = IsReplaced receipt

-- what became of the completion of the task with these commands and results of queries, and with what its run carries
-- over
abbrev pub CompletesWith : Gives → Fails → LiveOptions → OpenTask → List Command → List Event → Members → Carried → Receipt → Type 0
CompletesWith gives fails options task commands events results carried receipt = IsCompletion gives fails
    (workflow_completed options.names task.token commands events results options.sticky options.policies carried) receipt

-- which results the queries of a task may get, by the events of its run; none if there was no memory for them
abbrev pub GivesResults : Type 1
GivesResults = List Event → Members → Option Members → Type 0

-- what became of a call with results of queries; or it was too large, and this became of the one without them
abbrev pub IsReceiptOrSmaller : Gives → Fails → List ℕ → Data → (Receipt → Type 0) → Receipt → Type 0
IsReceiptOrSmaller gives fails method params smaller receipt = IsReceiptOf gives fails method params receipt
    ⊎ (IsRefusedAsLarge (fails method params) × smaller receipt)

-- what becomes of a completion with results of queries that was not written: without memory, what became of the one
-- without them; otherwise the task is failed instead
abbrev pub ReplacesUnwritten : (Receipt → Type 0) → RequestFault → Receipt → Type 0
ReplacesUnwritten smaller (requests.TooLong timer_id) receipt = IsReplaced receipt
ReplacesUnwritten smaller (requests.NotScheduled activity_id) receipt = IsReplaced receipt
ReplacesUnwritten smaller (requests.NeverSent change_id) receipt = IsReplaced receipt
ReplacesUnwritten smaller requests.OutOfMemory receipt = smaller receipt

-- what became of a completion with results of queries, by what was written for it: a request or a fault
abbrev pub CompletesWritten : Gives → Fails → (Receipt → Type 0) → Result Request RequestFault → Receipt → Type 0
CompletesWritten gives fails smaller (Ok request) receipt =
    IsReceiptOrSmaller gives fails request.method.now (view request.params) smaller receipt
CompletesWritten gives fails smaller (Err fault) receipt = ReplacesUnwritten smaller fault receipt

-- what became of the completion of the task with these commands and the results of its queries, or of the one without
-- these results, if that with them was too large, or there was no memory for it
pub record HasAnsweredQueries (gives_results : GivesResults) (gives : Gives) (fails : Fails) (options : LiveOptions)
    (task : OpenTask) (commands : List Command) (events : List Event) (carried : Carried) (receipt : Receipt) : Type 0 where
  pub results : Members
  pub has : gives_results events (members_view task.queries.entries) (Some results)
  pub written : Result Request RequestFault
  pub writes : WritesRequest written (codes "RespondWorkflowTaskCompleted")
      (workflow_completed options.names task.token commands events results options.sticky options.policies carried)
  pub became : CompletesWritten gives fails
      (CompletesWith gives fails options task commands events no_members carried) written receipt

-- what became of a completion without results, since there was no memory for those of the task's queries
abbrev pub CompletesWithoutResults : GivesResults → Gives → Fails → LiveOptions → OpenTask → List Command → List Event
    → Carried → Receipt → Type 0
CompletesWithoutResults gives_results gives fails options task commands events carried receipt =
    gives_results events (members_view task.queries.entries) None
    × CompletesWith gives fails options task commands events no_members carried receipt

-- what became of the completion of the task with these commands, which has queries: with their results, or without them
abbrev pub CompletesQueried : GivesResults → Gives → Fails → LiveOptions → OpenTask → List Command → List Event
    → Carried → Receipt → Type 0
CompletesQueried gives_results gives fails options task commands events carried receipt =
    HasAnsweredQueries gives_results gives fails options task commands events carried receipt
    ⊎ CompletesWithoutResults gives_results gives fails options task commands events carried receipt

-- the first if there are no queries, and the second if there are some
abbrev pub ByQueries : Members → Type 0 → Type 0 → Type 0
ByQueries no_members alone queried = alone
ByQueries (member id query queries) alone queried = queried

-- what became of the completion of the task with these commands: with the results of its queries, if it has some
abbrev pub CompletesAnswered : GivesResults → Gives → Fails → LiveOptions → OpenTask → List Command → List Event
    → Carried → Receipt → Type 0
CompletesAnswered gives_results gives fails options task commands events carried receipt =
    ByQueries (members_view task.queries.entries)
    (CompletesWith gives fails options task commands events no_members carried receipt)
    (CompletesQueried gives_results gives fails options task commands events carried receipt)

-- what a run carries over if it is continued as a new one: what its first event says
abbrev pub IsCarried : Gives → WorkerNames → RunKey → Bool → Carried → Type 0
IsCarried gives names run false carried = carried ≡ nothing_carried
IsCarried gives names run true carried = HandsOn gives names run carried

-- nothing is sent, since it is not known what the run carries over: that was refused with no status of its own, or the
-- fault decides
pub record IsUnsent (gives : Gives) (fails : Fails) (names : WorkerNames) (run : RunKey) (receipt : Receipt) : Type 0 where
  pub fault : AskFault
  pub unknown : CarriesUnknown gives fails names run fault
  pub meaning : HasNoMeaning fault
  pub is : receipt ≡ receipt_of fault

-- what became of the completion of the task with these commands
abbrev pub CompletesTask : GivesResults → Gives → Fails → LiveOptions → OpenTask → List Command → List Event → Receipt → Type 0
CompletesTask gives_results gives fails options task commands events receipt =
    ((carried : Carried) × IsCarried gives options.names task.run (list_any continues commands) carried
    × CompletesAnswered gives_results gives fails options task commands events carried receipt)
    ⊎ ((list_any continues commands ≡ true) × IsUnsent gives fails options.names task.run receipt)

-- what became of the failure of the task of a token with a cause
pub record FailsTask (gives : Gives) (fails : Fails) (names : WorkerNames) (token : List ℕ) (cause : FailedCause)
    (receipt : Receipt) : Type 0 where
  pub message : List ℕ
  pub became : IsReceiptOf gives fails (codes "RespondWorkflowTaskFailed") (workflow_failed names token cause message) receipt

-- the task of a token was failed in this attempt: the failure was sent, or is withheld since the attempt is a later one
pub record IsFailed (gives : Gives) (fails : Fails) (names : WorkerNames) (token : List ℕ) (attempt : ℕ)
    (cause : FailedCause) : Type 0 where
  pub receipt : Receipt
  pub memory : receipt ≢ NoMemory
  pub later : (receipt ≡ Withheld) ↔ (1 < attempt)
  pub sent : receipt ≢ Withheld → FailsTask gives fails names token cause receipt

-- the task was failed in place of its answer
abbrev pub IsFailedInstead : Gives → Fails → WorkerNames → OpenTask → Type 0
IsFailedInstead gives fails names task = (cause : FailedCause) × IsFailed gives fails names task.token task.attempt cause

-- what became of this answer to the task
abbrev pub HasAnswer : GivesResults → Gives → Fails → LiveOptions → OpenTask → Answer → List Event → Receipt → Type 0
HasAnswer gives_results gives fails options task (Complete commands) events receipt =
    CompletesTask gives_results gives fails options task commands events receipt
HasAnswer gives_results gives fails options task (Fail fault) events receipt =
    FailsTask gives fails options.names task.token (cause_of fault) receipt

-- a completion is never withheld; a failure is exactly if its attempt is not the first, unless there was no memory
abbrev pub WithholdsLater : OpenTask → Answer → Receipt → Type 0
WithholdsLater task (Complete commands) receipt = receipt ≢ Withheld
WithholdsLater task (Fail fault) receipt = receipt ≢ NoMemory → (receipt ≡ Withheld) ↔ (1 < task.attempt)

-- this became of this answer to the task, by its attempt; unless it was withheld it was sent, and it is replaced only if
-- the task was failed
pub record IsAnswerReceipt (gives_results : GivesResults) (gives : Gives) (fails : Fails) (options : LiveOptions)
    (answer : Answer) (events : List Event) (task : OpenTask) (receipt : Receipt) : Type 0 where
  pub kept_back : WithholdsLater task answer receipt
  pub sent : receipt ≢ Withheld → HasAnswer gives_results gives fails options task answer events receipt
  pub replaced : receipt ≡ Replaced → IsFailedInstead gives fails options.names task

-- the open task has this name, and this became of the answer to it
pub record AnswersOpen (answers : OpenTask → Receipt → Type 0) (open_task : Option OpenTask) (name : TaskName)
    (receipt : Receipt) : Type 0 where
  pub task : OpenTask
  pub is : open_task ≡ Some task
  pub named : task.name ≡ name
  pub answered : answers task receipt

-- no task of this name is open
abbrev pub IsNotOpen : Option OpenTask → TaskName → Type 0
IsNotOpen open_task name = (task : OpenTask) → open_task ≡ Some task → task.name ≢ name

-- what became of the answer to the task of a name: an answer to no open task is lost
abbrev pub IsOpenReceipt : (OpenTask → Receipt → Type 0) → Option OpenTask → TaskName → Receipt → Type 0
IsOpenReceipt answers open_task name receipt =
    AnswersOpen answers open_task name receipt ⊎ ((receipt ≡ Lost) × IsNotOpen open_task name)

-- what became of an answer decides whether it counts as taken, and what is counted
pub record Settles (became : Receipt → Type 0) (sent : Result (Unit {0}) SourceFault) (old new : Tally) : Type 0 where
  pub receipt : Receipt
  pub is : became receipt
  pub taken : IsTrue (is_taken receipt) ↔ IsOk sent
  pub tally : new ≡ settled receipt old

-- ---- What becomes of it

-- what became of an answer that was sent: accepted, with whether the task is discarded, or not
abbrev pub receipt_of_sent : Result Bool AskFault → Receipt
receipt_of_sent (Ok is_discarded) = accepted_answer is_discarded
receipt_of_sent (Err fault) = receipt_of fault

-- the message says that the run had new events while its answer closed it
abbrev pub is_unhandled_command : List ℕ → Bool
is_unhandled_command message = bytes_eq message (codes "UnhandledCommand")

-- each refusal is reported, unless the task is over or its run had new events
abbrev pub reports_refusal : StatusCode → List ℕ → Bool
reports_refusal status.Cancelled message = true
reports_refusal status.InvalidArgument message = not (is_unhandled_command message)
reports_refusal status.NotFound message = false
reports_refusal status.PermissionDenied message = true
reports_refusal status.Unauthenticated message = true
reports_refusal status.Other message = true

-- a failed call is reported, unless the bridge has closed or there is no memory
abbrev pub is_reported : AskFault → Bool
is_reported asked.Closed = false
is_reported asked.Output = true
is_reported (asked.Refused status code message) = reports_refusal status (string_bytes message)
is_reported asked.Unreadable = true
is_reported asked.TooManyPages = true
is_reported (asked.History fault) = true
is_reported asked.OutOfMemory = false

-- the run is cached if the server acknowledged the answer, and did not discard the task
abbrev pub run_use : Receipt → RunUse
run_use receipt = if keeps_run receipt then Cache else Discard
