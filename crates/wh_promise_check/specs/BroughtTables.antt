-- Each history that replay accepts keeps the promises of the table that its run got with the input.
use Rattle.std.specs.Prelude.{◌≡◌, ℕ, List, [], ◌∷◌, map, Option, Some, None, Ok, IsTrue}
use Rattle.wh_events.specs.declared.event.Event.{Event}
use Rattle.wh_events.specs.declared.event.Payload.{Payload}
use Rattle.wh_workflow.specs.declared.job.Job.{Job}
use Rattle.wh_workflow.specs.declared.job.Job.TheVariants as jobs
use Rattle.wh_workflow.specs.declared.command.Command.{Command}
use Rattle.wh_replay.specs.Replays.{Replayed, start, workflow_of, replay}
use Rattle.wh_rows.specs.Rows.{initial}
use Rattle.wh_row_rules.specs.declared.owned.OwnedTable.{OwnedTable}
use Rattle.wh_row_rules.specs.Broken.{definition}
use Rattle.wh_table_text.specs.Reading.{table_of}
use Rattle.wh_table.specs.declared.state.TableState.{TableState}
use Rattle.wh_table.specs.Carrying.{with_table}
use Rattle.wh_table.specs.Program.{front, tail, table_in, program}
use Rattle.wh_rows.specs.Courses.{Entry, course, begins}
use Rattle.wh_rows.specs.Promises.{Promise, PromisesAll, KeptAllIn}
use Rattle.wh_promise_check.specs.Kept.{without_markers, commands_in, HasIssued, Told, input_of}
use Rattle.wh_table_promises.specs.declared.promise.TablePromise.{TablePromise}
use Rattle.wh_table_promises.specs.Promised.{promise_of}
use Rattle.wh_row_rules.specs.declared.promises.PromiseFindings.{PromiseFindings}
use Rattle.wh_promise_check.specs.Phrases.{promise_in}
use Rattle.wh_promise_check.specs.Findings.{phrases_in, AreDecided}
use Rattle.wh_row_rules.specs.Promises.{are_kept}

-- the job as the rows of the run's table see it: the input of the start has only the payloads after the table
abbrev pub as_rows_see : Job → Job
as_rows_see (jobs.Start workflow input) = jobs.Start workflow (tail input)
as_rows_see job = job

-- the entries of a run at these jobs, by the table that it got with its input
abbrev pub brought_course : OwnedTable → List Job → List Entry
brought_course table list = course (definition table) (initial (definition table)) (map as_rows_see list)

-- If replay accepts a history of the workflow `Table` whose input begins with a table, the jobs of its tasks, some
-- followed by versions, begin with the only start. The commands that its activations issue, except version markers, are
-- those that a run of the table gives to these jobs, with the table added where they continue as a new run of it.
abbrev pub BroughtHistoriesAreCourses : Type 0
BroughtHistoriesAreCourses =
    (events : List Event) (left : Replayed TableState) → replay program events 0 ≡ Ok left
    → (table : OwnedTable) → table_in (input_of events) ≡ Ok table
    → (issued : List Command) × HasIssued program [] [] events (start program (workflow_of events) 0) issued
    × (list : List Job) × Told [] [] events list × IsTrue (begins list)
    × (without_markers issued
    ≡ map (with_table (workflow_of events) (front (input_of events))) (commands_in (brought_course table list)))

-- if the table keeps promises whatever jobs come, a run of it keeps them at the jobs of the history's tasks
abbrev pub BroughtTablesKeep : Type 0
BroughtTablesKeep =
    (events : List Event) (left : Replayed TableState) → replay program events 0 ≡ Ok left
    → (table : OwnedTable) → table_in (input_of events) ≡ Ok table
    → (promises : List Promise) → PromisesAll (definition table) promises
    → (list : List Job) → Told [] [] events list → KeptAllIn promises (brought_course table list)

-- the promise of a phrase, if it is one, before others
abbrev pub with_promise : Option TablePromise → List Promise → List Promise
with_promise None others = others
with_promise (Some promise) others = promise_of promise ∷ others

-- the promises of these phrases
abbrev pub promises_said : List (List ℕ) → List Promise
promises_said [] = []
promises_said (phrase ∷ phrases) = with_promise (promise_in phrase) (promises_said phrases)

-- the promises of the member `promises` of a table's JSON
abbrev pub promises_by : Option (List (List ℕ)) → List Promise
promises_by None = []
promises_by (Some phrases) = promises_said phrases

-- if `check` finds that such a table keeps each of its promises, a run of it keeps them at the jobs of the history's
-- tasks
abbrev pub CheckedTablesKeep : Type 0
CheckedTablesKeep =
    (events : List Event) (left : Replayed TableState) → replay program events 0 ≡ Ok left
    → (first : Payload) (others : List Payload) → input_of events ≡ first ∷ others
    → (table : OwnedTable) → table_of first.content ≡ Ok table
    → (found : PromiseFindings) → AreDecided (definition table) (phrases_in first.content) found
    → IsTrue (are_kept found)
    → (list : List Job) → Told [] [] events list
    → KeptAllIn (promises_by (phrases_in first.content)) (brought_course table list)
