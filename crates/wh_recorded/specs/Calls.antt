-- Lists of calls of a source, and what the polls among them return.
use Rattle.std.specs.Prelude.{◌≡◌, ◌↔◌, ℕ, ◌+◌, ◌<◌, ◌≤◌, List, [], ◌∷◌, length, take, slice_get, Option, Some, None}
use Rattle.wh_slots.specs.declared.TaskName.{TaskName}
use Rattle.wh_tasks.specs.declared.source.Sent.{Sent}
use Rattle.wh_tasks.specs.declared.source.WorkflowTask.{WorkflowTask}
use Rattle.wh_tasks.specs.declared.source.Polled.{Polled}
use Rattle.wh_tasks.specs.declared.source.Polled.TheVariants.{Task, Nothing, Closed}
use Rattle.wh_recorded.specs.Rounds.{Scripted, Stage, opening_stage, with_answer, tasks_in, task_of, polled_at, Polls}
use Rattle.wh_recorded.specs.Order.{in_rounds, rank_of, HaveOwnNumbers, HaveOwnNames}

-- a call of a source: a poll of workflow tasks with its result, an answer that the source stored, or a call that
-- changes nothing, as one that failed, a poll of activity tasks or one that only reads the source
pub data Call : Type 0 where
  poll : Polled WorkflowTask → Call
  send : TaskName → Sent → Call
  look : Call

-- the call leads from the old source to the new one
abbrev pub Does : Stage → Call → Stage → Type 0
Does old (poll polled) new = Polls old polled new
Does old (send name sent) new = new ≡ with_answer old name sent
Does old look new = new ≡ old

-- the calls, one after the other, lead from the first source to the last
abbrev pub DoesAll : Stage → List Call → Stage → Type 0
DoesAll first [] last = last ≡ first
DoesAll first (call ∷ calls) last = (next : Stage) × Does first call next × DoesAll next calls last

-- a source comes from another one: calls lead from that one to it
pub record ComesFrom (later first : Stage) : Type 0 where
  pub calls : List Call
  pub made : DoesAll first calls later

-- the calls lead from a new source over the histories to this one
abbrev pub Makes : List Scripted → List Call → Stage → Type 0
Makes histories calls last = DoesAll (opening_stage histories) calls last

-- the tasks that the calls returned, in their order
abbrev pub tasks_given : List Call → List WorkflowTask
tasks_given [] = []
tasks_given (poll (Task task) ∷ calls) = task ∷ tasks_given calls
tasks_given (poll Nothing ∷ calls) = tasks_given calls
tasks_given (poll Closed ∷ calls) = tasks_given calls
tasks_given (send name sent ∷ calls) = tasks_given calls
tasks_given (look ∷ calls) = tasks_given calls

-- how many of the calls are polls of workflow tasks that did not fail
abbrev pub polls_in : List Call → ℕ
polls_in [] = 0
polls_in (poll polled ∷ calls) = polls_in calls + 1
polls_in (send name sent ∷ calls) = polls_in calls
polls_in (look ∷ calls) = polls_in calls

-- the result of a poll: the task, or `Closed` if there is none
abbrev pub polled_of : Option WorkflowTask → Polled WorkflowTask
polled_of None = Closed
polled_of (Some task) = Task task

-- the polls return as many tasks, the first in the order of the rounds, each once
abbrev pub PollsGoInRounds : Type 0
PollsGoInRounds =
    (histories : List Scripted) (calls : List Call) (last : Stage) → Makes histories calls last
    → tasks_given calls ≡ take (polls_in calls) (in_rounds histories)

-- as many polls as there are tasks return all of them
abbrev pub EnoughPollsGiveAll : Type 0
EnoughPollsGiveAll =
    (histories : List Scripted) (calls : List Call) (last : Stage) → Makes histories calls last
    → length (in_rounds histories) ≤ polls_in calls → tasks_given calls ≡ in_rounds histories

-- whatever was called before, a poll returns the task after those that were returned
abbrev pub PollGivesNext : Type 0
PollGivesNext =
    (histories : List Scripted) (calls : List Call) (last after : Stage) (polled : Polled WorkflowTask)
    → Makes histories calls last → Polls last polled after
    → polled ≡ polled_of (slice_get (in_rounds histories) (length (tasks_given calls)))

-- a poll returns `Closed` exactly if all tasks were returned
abbrev pub ClosedWhereAllGiven : Type 0
ClosedWhereAllGiven =
    (histories : List Scripted) (calls : List Call) (last after : Stage) (polled : Polled WorkflowTask)
    → Makes histories calls last → Polls last polled after
    → (polled ≡ Closed) ↔ (tasks_given calls ≡ in_rounds histories)

-- the tasks of a history that count as polled are those that were returned, each at its rank
abbrev pub PolledAreGiven : Type 0
PolledAreGiven =
    (histories : List Scripted) (calls : List Call) (last : Stage) (place n : ℕ) (history : Scripted)
    → Makes histories calls last → slice_get histories place ≡ Some history → n < tasks_in history
    → (n < polled_at last place history)
    ↔ (slice_get (tasks_given calls) (rank_of histories place n) ≡ Some (task_of history n))

-- no two tasks that are returned of histories for which `HaveOwnNumbers` holds have the same name
abbrev pub GivenNamesAreOwn : Type 0
GivenNamesAreOwn =
    (histories : List Scripted) (calls : List Call) (last : Stage) → Makes histories calls last
    → HaveOwnNumbers histories → HaveOwnNames (tasks_given calls)
