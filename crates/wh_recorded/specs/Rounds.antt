-- A source over recorded histories: the tasks that it delivers, the histories that it fetches, and how its tasks were
-- answered.
use Rattle.std.specs.Prelude.{◌≡◌, ℕ, zero, suc, ◌+◌, ◌-◌, ◌*◌, ◌<◌, ◌&&◌, min, Bool, true, false, List, [], ◌∷◌, ◌++◌, length, drop, take, get_or, slice_get, Option, Some, None, if◌then◌else◌, eqb, leb, ltb, bytes_eq, codes, String, string_bytes, Vec, sum_by, count_by}
use Rattle.std.specs.List.{list_any, flat_map}
use Rattle.std.specs.Option.{option_or}
use Rattle.std.specs.declared.alloc.Global.{Global}
use Rattle.wh_events.specs.declared.event.Event.{Event}
use Rattle.wh_events.specs.declared.key.RunKey.{RunKey}
use Rattle.wh_events.specs.Cuts.{is_task_started, is_task_completed}
use Rattle.wh_replay.specs.declared.fault.Fault.{Fault}
use Rattle.wh_replay.specs.declared.run.Answer.TheVariants.{Complete, Fail}
use Rattle.wh_slots.specs.declared.TaskName.{TaskName}
use Rattle.wh_tasks.specs.declared.source.Sent.{Sent}
use Rattle.wh_tasks.specs.declared.source.Sent.TheVariants.{Workflow as OfWorkflow}
use Rattle.wh_tasks.specs.declared.source.WorkflowTask.{WorkflowTask}
use Rattle.wh_tasks.specs.declared.source.Polled.{Polled}
use Rattle.wh_tasks.specs.declared.source.Polled.TheVariants.{Task, Nothing, Closed}
use Rattle.wh_tasks.specs.Numbers.{last_number}
use Rattle.wh_tasks.specs.Source.{Delivery, Workflow, Activity}
use Rattle.wh_recorded.specs.declared.failed_task.FailedTask.{FailedTask}

-- a recorded history: the index of its file, its name, and its events
pub record Scripted : Type 0 where
  pub index : ℕ
  pub name : List ℕ
  pub events : List Event

-- a source as contracts see it: its histories, the round of its next task and the place of the history that comes next
-- in it, both counted from 0, and the answers that it was sent
pub record Stage : Type 0 where
  pub histories : List Scripted
  pub round : ℕ
  pub next : ℕ
  pub answers : List (TaskName × Sent)

-- a source that has delivered no task yet, and was sent no answer
abbrev pub opening_stage : List Scripted → Stage
opening_stage histories = record { histories = histories; round = 0; next = 0; answers = [] }

-- the source after one more answer, under the name of its task
abbrev pub with_answer : Stage → TaskName → Sent → Stage
with_answer stage name sent = record stage { answers = stage.answers ++ (name, sent) ∷ [] }

-- the history that is made of a file's index, its name and its events
abbrev pub scripted : (ℕ × String Global × Vec Event Global) → Scripted
scripted given = record { index = given.0; name = string_bytes given.1; events = given.2.items }

-- the ends of the tasks of a list of events that comes after `before` events: for each event that starts a task, how
-- many events there are up to it
abbrev pub ends_after : ℕ → List Event → List ℕ
ends_after before [] = []
ends_after before (event ∷ rest) =
    if is_task_started event then (before + 1) ∷ ends_after (before + 1) rest else ends_after (before + 1) rest

-- the ends of the tasks of a history
abbrev pub ends_of : List Event → List ℕ
ends_of events = ends_after 0 events

-- how many tasks a history has
abbrev pub tasks_in : Scripted → ℕ
tasks_in history = length (ends_of history.events)

-- how many events come before those of the n-th task, counted from 0: those up to the end of the task before it
abbrev pub begin_at : List ℕ → ℕ → ℕ
begin_at ends n = if eqb n 0 then 0 else get_or ends (n - 1) 0

-- the events of the n-th task, counted from 0: those up to its end, without those of the tasks before it
abbrev pub events_of : List Event → ℕ → List Event
events_of events n =
    take (get_or (ends_of events) n 0 - begin_at (ends_of events) n) (drop (begin_at (ends_of events) n) events)

-- the name of a task: the file's index times 2^64 plus the number of the event that starts the task
abbrev pub token : ℕ → ℕ → TaskName
token index number = record { 0 = index * 0x1_0000_0000_0000_0000 + number }

-- the key of a history: its name, and the run `recorded`
abbrev pub key_of : List ℕ → RunKey
key_of name = record { workflow_id = name; run_id = codes "recorded" }

-- the n-th task of a history, counted from 0
abbrev pub task_of : Scripted → ℕ → WorkflowTask
task_of history n = record {
  name = token history.index (last_number (events_of history.events n));
  run = key_of history.name;
  events = events_of history.events n;
}

-- the task is one of the tasks of the histories
abbrev pub IsTaskOf : List Scripted → WorkflowTask → Type 0
IsTaskOf histories task =
    (place n : ℕ)
    × (history : Scripted)
    × (slice_get histories place ≡ Some history)
    × (n < tasks_in history)
    × (task ≡ task_of history n)

-- the place of the first history that has an n-th task, counted from 0, if there is one, in a list that comes after
-- `before` histories
abbrev pub first_with : ℕ → ℕ → List Scripted → Option ℕ
first_with before n [] = None
first_with before n (history ∷ rest) = if ltb n (tasks_in history) then Some before else first_with (before + 1) n rest

-- the round and the history of the next task, by the first history that is left in this round and the first of the next
-- round
abbrev pub upcoming_by : ℕ → Option ℕ → Option ℕ → Option (ℕ × ℕ)
upcoming_by round (Some place) later = Some (round, place)
upcoming_by round None (Some place) = Some (round + 1, place)
upcoming_by round None None = None

-- the round of the next task and the place of its history, if a task is left
abbrev pub upcoming : Stage → Option (ℕ × ℕ)
upcoming stage =
    upcoming_by stage.round
    (first_with stage.next stage.round (drop stage.next stage.histories))
    (first_with 0 (stage.round + 1) stage.histories)

-- a poll returns the next task and goes on after it; if no task is left, it returns `Closed` and changes nothing
abbrev pub Polls : Stage → Polled WorkflowTask → Stage → Type 0
Polls old (Task task) new =
    (round place : ℕ)
    × (history : Scripted)
    × (upcoming old ≡ Some (round, place))
    × (slice_get old.histories place ≡ Some history)
    × (task ≡ task_of history round)
    × (new ≡ record old { round = round; next = place + 1 })
Polls old Nothing new = ⊥
Polls old Closed new = (upcoming old ≡ None) × (new ≡ old)

-- the source delivers the tasks of its histories, and no activity task
abbrev pub Gives : List Scripted → Delivery → Type 0
Gives histories (Workflow task) = IsTaskOf histories task
Gives histories (Activity task) = ⊥

-- the events up to a number
abbrev pub events_up_to : ℕ → List Event → List Event
events_up_to number [] = []
events_up_to number (event ∷ rest) = if leb event.number number then event ∷ events_up_to number rest else []

-- the first history of the name with its place, if there is one, in a list that comes after `before` histories
abbrev pub first_named : ℕ → List ℕ → List Scripted → Option (ℕ × Scripted)
first_named before name [] = None
first_named before name (history ∷ rest) =
    if bytes_eq history.name name then Some (before, history) else first_named (before + 1) name rest

-- the events of a history up to a number, if there is one
abbrev pub events_in : ℕ → Option (ℕ × Scripted) → List Event
events_in up_to None = []
events_in up_to (Some found) = events_up_to up_to found.1.events

-- the history that the source fetches for a key: the events of the first history of its name up to the number, and none
-- if the run is not `recorded`
abbrev pub told : List Scripted → RunKey → ℕ → List Event
told histories key up_to =
    if bytes_eq key.run_id (codes "recorded") then events_in up_to (first_named 0 key.workflow_id histories) else []

-- the source fetches this history for a key and a number
abbrev pub Recounts : List Scripted → RunKey → ℕ → List Event → Type 0
Recounts histories key up_to history = history ≡ told histories key up_to

-- how many tasks of the history at a place were polled
abbrev pub polled_at : Stage → ℕ → Scripted → ℕ
polled_at stage place history = min (if ltb place stage.next then stage.round + 1 else stage.round) (tasks_in history)

-- an answer without a fault to a workflow task
abbrev pub is_complete : Sent → Bool
is_complete (OfWorkflow (Complete commands)) = true
is_complete _ = false

-- the answer, with the name that it was sent under, completes the task of this name
abbrev pub completes : TaskName → TaskName × Sent → Bool
completes name sent = is_complete sent.1 && eqb sent.0.0 name.0

-- an answer completes the task of this name
abbrev pub is_completed : List (TaskName × Sent) → TaskName → Bool
is_completed answers name = list_any (completes name) answers

-- the fault in an answer to a workflow task, if it is one
abbrev pub fault_in : Sent → Option Fault
fault_in (OfWorkflow (Fail fault)) = Some fault
fault_in _ = None

-- the fault in an answer, if it was sent under this name
abbrev pub fault_by : TaskName → TaskName × Sent → Option Fault
fault_by name sent = if eqb sent.0.0 name.0 then fault_in sent.1 else None

-- the last fault that was sent under this name
abbrev pub fault_under : List (TaskName × Sent) → TaskName → Option Fault
fault_under [] name = None
fault_under (sent ∷ rest) name = option_or (fault_under rest name) (fault_by name sent)

-- the first so many tasks of a history
abbrev pub first_tasks : Scripted → ℕ → List WorkflowTask
first_tasks history zero = []
first_tasks history (suc n) = first_tasks history n ++ task_of history n ∷ []

-- how many of the tasks an answer completes
abbrev pub completed_of : List (TaskName × Sent) → List WorkflowTask → ℕ
completed_of answers tasks = count_by (λ task. is_completed answers task.name) tasks

-- the tally of the first history of a name, by the history and its place
abbrev pub tally_by : Stage → Option (ℕ × Scripted) → Option (ℕ × ℕ × ℕ)
tally_by stage None = None
tally_by stage (Some found) =
    let polled = polled_at stage found.0 found.1 in
    let completed = completed_of stage.answers (first_tasks found.1 polled) in
    Some (polled, completed, polled - completed)

-- how many tasks of the first history of the name were polled, how many of these are completed, and how many are not
abbrev pub tally_of : Stage → List ℕ → Option (ℕ × ℕ × ℕ)
tally_of stage name = tally_by stage (first_named 0 name stage.histories)

-- the task as a failed one, or nothing if an answer completes it
abbrev pub failed_as : List (TaskName × Sent) → WorkflowTask → List FailedTask
failed_as answers task =
    if is_completed answers task.name
    then []
    else record { at = last_number task.events; fault = fault_under answers task.name } ∷ []

-- those of the tasks that no answer completes
abbrev pub failed_of : List (TaskName × Sent) → List WorkflowTask → List FailedTask
failed_of answers tasks = flat_map (failed_as answers) tasks

-- the failed tasks of the first history of a name, by the history and its place
abbrev pub failed_by : Stage → Option (ℕ × Scripted) → List FailedTask
failed_by stage None = []
failed_by stage (Some found) = failed_of stage.answers (first_tasks found.1 (polled_at stage found.0 found.1))

-- the polled tasks of the first history of the name that are not completed, in their order
abbrev pub failed_in : Stage → List ℕ → List FailedTask
failed_in stage name = failed_by stage (first_named 0 name stage.histories)

-- the last task of a history has a record: an event that completes a task comes after the one that starts it
abbrev pub is_last_recorded : Scripted → Bool
is_last_recorded history =
    ltb 0 (tasks_in history)
    && list_any is_task_completed (drop (begin_at (ends_of history.events) (tasks_in history)) history.events)

-- the last task of one of the histories has a record
abbrev pub has_last_record : Stage → Bool
has_last_record stage = list_any is_last_recorded stage.histories

-- how many tasks all histories have, at most 2^64 - 1
abbrev pub deliveries_of : List Scripted → ℕ
deliveries_of histories = min (sum_by tasks_in histories) 0xffff_ffff_ffff_ffff
