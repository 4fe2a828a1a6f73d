-- Failed tasks that repeat one.
use Rattle.std.specs.Prelude.{ℕ, ◌+◌, ◌==◌, ◌&&◌, List, [], ◌∷◌, ◌++◌, bytes_eq, codes, decimal, Bool, true, false, Option, Some, None, if◌then◌else◌, eqb, is_none}
use Rattle.wh_replay.specs.declared.fault.Fault.{Fault}
use Rattle.wh_replay.specs.declared.fault.Fault.TheVariants.{Mismatch, NotATask, Place, Workflow}
use Rattle.wh_service.specs.declared.failures.FileFailure.{FileFailure}
use Rattle.wh_service.specs.Texts.{failure_text}

-- the fault is that of the event in a place, of the commands of a task, a difference in a task, or that there is no
-- task
abbrev pub is_of_event : ℕ → Fault → Bool
is_of_event at (Place own _) = eqb at own
is_of_event at _ = false

abbrev pub is_of_commands : ℕ → Fault → Bool
is_of_commands at (Workflow own _) = eqb at own
is_of_commands at _ = false

abbrev pub is_of_task : ℕ → Fault → Bool
is_of_task at (Mismatch own _) = eqb at own
is_of_task at _ = false

abbrev pub is_no_task : Fault → Bool
is_no_task NotATask = true
is_no_task _ = false

-- two faults of a file are one: they are of one event or of one task
abbrev pub is_same_fault : Fault → Fault → Bool
is_same_fault NotATask other = is_no_task other
is_same_fault (Place at _) other = is_of_event at other
is_same_fault (Workflow at _) other = is_of_commands at other
is_same_fault (Mismatch at _) other = is_of_task at other

-- two tasks of a file failed for one reason: neither was answered, or their faults are one
abbrev pub is_same_reason : Option Fault → Option Fault → Bool
is_same_reason None other = is_none other
is_same_reason (Some one) None = false
is_same_reason (Some one) (Some other) = is_same_fault one other

-- a failed task repeats one before it: it is of a file of the same name, and failed for the same reason
abbrev pub is_repeat : (one next : FileFailure) → Bool
is_repeat one next = is_same_reason one.task.fault next.task.fault && bytes_eq one.name next.name

-- how many failed tasks repeat one, up to the first that does not
abbrev pub repeats : FileFailure → List FileFailure → ℕ
repeats one [] = 0
repeats one (next ∷ rest) = if is_repeat one next then repeats one rest + 1 else 0

-- `, and <number> more`, if there are any
abbrev pub more_text : ℕ → List ℕ
more_text more = if more == 0 then [] else codes ", and " ++ (decimal more ++ codes " more")

-- a failed task, and how many repeat it
abbrev pub repeated_text : FileFailure → ℕ → List ℕ
repeated_text failure more = failure_text failure ++ more_text more
