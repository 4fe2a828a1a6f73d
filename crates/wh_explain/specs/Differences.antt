-- The difference that a replay stops at.
use Rattle.std.specs.Prelude.{◌≡◌, ◌-◌, ℕ, List, length, slice_get, Option, Some, None, if◌then◌else◌}
use Rattle.wh_json.specs.Events.{history}
use Rattle.wh_workflow.specs.Law.{Program}
use Rattle.wh_explained_tasks.specs.declared.Ending.{Ending}
use Rattle.wh_explained_tasks.specs.declared.Ending.TheVariants.{Refused, Live, Recorded}
use Rattle.wh_explained_tasks.specs.declared.ExplainedTask.{ExplainedTask}
use Rattle.wh_explained_tasks.specs.declared.Pairing.{Pairing}
use Rattle.wh_explain.specs.Explaining.{AreTasksIn}
use Rattle.wh_explain.specs.Pairings.{differs}

-- the last element, if there is one
abbrev pub last_of : {A : Type 0} → List A → Option A
last_of items = slice_get items (length items - 1)

-- the pairing, if the command differs from the record in it
abbrev pub if_differs : Option Pairing → Option Pairing
if_differs None = None
if_differs (Some pairing) = if differs pairing then Some pairing else None

-- the difference that a task ends in, if it does: pairings go up to the first difference, so it is the last pairing
abbrev pub difference_at : Ending → Option Pairing
difference_at Refused = None
difference_at (Live sent) = None
difference_at (Recorded pairings) = if_differs (last_of pairings)

-- the difference that a task ends in, if there is a task and it does
abbrev pub difference_of : Option ExplainedTask → Option Pairing
difference_of None = None
difference_of (Some task) = difference_at task.ending

-- the difference that the last of the tasks ends in, if it does
abbrev pub last_difference : List ExplainedTask → Option Pairing
last_difference tasks = difference_of (last_of tasks)

-- the difference that the explanation of a file ends in, if it does
pub record IsDifferenceIn {S : Type 0} (program : Program S) (bytes : List ℕ) (found : Option Pairing) : Type 0 where
  pub tasks : List ExplainedTask
  pub explained : AreTasksIn program (history bytes) tasks
  pub last : found ≡ last_difference tasks
