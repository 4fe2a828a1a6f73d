-- All tasks of recorded histories in the order of the rounds, and the place of each task in it.
use Rattle.std.specs.Prelude.{◌≡◌, ℕ, zero, suc, ◌+◌, ◌<◌, min, max, Bool, List, [], ◌∷◌, ◌++◌, length, take, slice_get, Some, if◌then◌else◌, ltb, sum_by, count_by}
use Rattle.wh_events.specs.declared.event.Event.{Event}
use Rattle.wh_tasks.specs.declared.source.WorkflowTask.{WorkflowTask}
use Rattle.wh_recorded.specs.Rounds.{Scripted, tasks_in, task_of}

-- the history has an n-th task, counted from 0
abbrev pub has_task : ℕ → Scripted → Bool
has_task n history = ltb n (tasks_in history)

-- a round: the n-th task, counted from 0, of each history that has one, in the order of the histories
abbrev pub round_of : ℕ → List Scripted → List WorkflowTask
round_of n [] = []
round_of n (history ∷ rest) = if has_task n history then task_of history n ∷ round_of n rest else round_of n rest

-- so many rounds, one after the other, from the n-th on
abbrev pub rounds_from : ℕ → ℕ → List Scripted → List WorkflowTask
rounds_from n zero histories = []
rounds_from n (suc more) histories = round_of n histories ++ rounds_from (n + 1) more histories

-- how many rounds there are: as many as the history with the most tasks has tasks
abbrev pub rounds_in : List Scripted → ℕ
rounds_in [] = 0
rounds_in (history ∷ rest) = max (tasks_in history) (rounds_in rest)

-- all tasks of the histories, in the order of the rounds
abbrev pub in_rounds : List Scripted → List WorkflowTask
in_rounds histories = rounds_from 0 (rounds_in histories) histories

-- how many tasks come before the n-th of the history at a place, both counted from 0: the first n of each history, or
-- all that it has, and the n-th of each history before that place
abbrev pub rank_of : List Scripted → ℕ → ℕ → ℕ
rank_of histories place n =
    sum_by (λ history. min n (tasks_in history)) histories + count_by (has_task n) (take place histories)

-- the task at a rank of the order is the n-th task of the history at a place
pub record StandsAt (histories : List Scripted) (rank : ℕ) (task : WorkflowTask) : Type 0 where
  pub place : ℕ
  pub n : ℕ
  pub history : Scripted
  pub at : slice_get histories place ≡ Some history
  pub has : n < tasks_in history
  pub is : task ≡ task_of history n
  pub rank_is : rank ≡ rank_of histories place n

-- each task is in the order, at its rank
abbrev pub EachStandsAtItsRank : Type 0
EachStandsAtItsRank =
    (histories : List Scripted) (place n : ℕ) (history : Scripted)
    → slice_get histories place ≡ Some history → n < tasks_in history
    → slice_get (in_rounds histories) (rank_of histories place n) ≡ Some (task_of history n)

-- nothing else is in the order
abbrev pub NothingElseStands : Type 0
NothingElseStands =
    (histories : List Scripted) (rank : ℕ) (task : WorkflowTask)
    → slice_get (in_rounds histories) rank ≡ Some task → StandsAt histories rank task

-- the order has as many tasks as the histories have together
abbrev pub AsManyAsTasks : Type 0
AsManyAsTasks = (histories : List Scripted) → length (in_rounds histories) ≡ sum_by tasks_in histories

-- different histories have different indices, and within a history numbers rise and are less than 2^64
pub record HaveOwnNumbers (histories : List Scripted) : Type 0 where
  pub indices : (i j : ℕ) (a b : Scripted)
      → slice_get histories i ≡ Some a → slice_get histories j ≡ Some b → a.index ≡ b.index → i ≡ j
  pub rising : (place i j : ℕ) (history : Scripted) (a b : Event)
      → slice_get histories place ≡ Some history → slice_get history.events i ≡ Some a
      → slice_get history.events j ≡ Some b → i < j → a.number < b.number
  pub bounded : (place i : ℕ) (history : Scripted) (a : Event)
      → slice_get histories place ≡ Some history → slice_get history.events i ≡ Some a
      → a.number < 0x1_0000_0000_0000_0000

-- no two tasks of a list have the same name
abbrev pub HaveOwnNames : List WorkflowTask → Type 0
HaveOwnNames tasks =
    (i j : ℕ) (a b : WorkflowTask)
    → slice_get tasks i ≡ Some a → slice_get tasks j ≡ Some b → a.name ≡ b.name → i ≡ j

-- the tasks of histories for which `HaveOwnNumbers` holds have different names
abbrev pub NamesAreOwn : Type 0
NamesAreOwn = (histories : List Scripted) → HaveOwnNumbers histories → HaveOwnNames (in_rounds histories)
