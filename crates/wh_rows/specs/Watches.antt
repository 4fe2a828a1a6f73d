-- A watch over a run: a state machine that changes its state at what happens, and adds up costs.
use Rattle.std.specs.Prelude.{ℕ, ◌+◌, ◌≤◌, Bool, true, false, List, [], ◌∷◌, Option, Some, None, IsTrue, nat_eq}
use Rattle.wh_workflow.specs.declared.job.Job.{Job}
use Rattle.wh_rows.specs.Tables.{Definition}
use Rattle.wh_rows.specs.Rows.{initial}
use Rattle.wh_rows.specs.Courses.{Happening, Entry, is_at, course, begins}

-- a turn of a watch
pub record Turn : Type 0 where
  -- in this state of the watch
  pub from : ℕ
  -- when this happens
  pub what : Happening
  -- it changes to that state
  pub to : ℕ
  -- and spends this cost
  pub cost : ℕ

-- a watch
pub record Watch : Type 0 where
  -- its turns; the first that fits applies
  pub turns : List Turn
  -- the most that it may spend
  pub budget : ℕ

-- the state of a watch, and what it has spent
pub record Standing : Type 0 where
  -- its state
  pub at : ℕ
  -- what it has spent
  pub spent : ℕ

-- it begins in state 1, and has spent nothing
abbrev pub new_standing : Standing
new_standing = record { at = 1; spent = 0 }

-- the first turn from the state whose happening passes the test
abbrev pub turn_for : List Turn → (Happening → Bool) → ℕ → Option Turn
turn_for [] test at = None
turn_for (turn ∷ rest) test at =
    elim (nat_eq turn.from at) [
      | true ↦ elim (test turn.what) [ true ↦ Some turn | false ↦ turn_for rest test at ]
      | false ↦ turn_for rest test at
    ]

-- the standing of a watch after a turn
abbrev pub took : Turn → Standing → Standing
took turn now = record { at = turn.to; spent = now.spent + turn.cost }

-- after a turn, if there is one
abbrev pub moved : Option Turn → Standing → Standing
moved None now = now
moved (Some turn) now = took turn now

-- the standing after something happens, if the test says what that is
abbrev pub turned : List Turn → (Happening → Bool) → Standing → Standing
turned turns test now = moved (turn_for turns test now.at) now

-- the standing after these entries
abbrev pub watched : List Turn → Standing → List Entry → Standing
watched turns now [] = now
watched turns now (entry ∷ rest) = watched turns (turned turns (λ what. is_at what entry) now) rest

-- a run spends at most the budget, whatever jobs come
abbrev pub Keeps : Definition → Watch → Type 0
Keeps table watch =
    (list : List Job) → IsTrue (begins list)
    → (watched watch.turns new_standing (course table (initial table) list)).spent ≤ watch.budget
