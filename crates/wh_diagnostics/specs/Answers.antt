-- What a program does with the words of its command line, given what it does with a plan.
use Rattle.std.specs.Prelude.{◌≡◌, ◌⊎◌, ℕ, List}
use Rattle.wh_command_line.specs.Plans.{IsAskedBy}
use Rattle.wh_command_line.specs.declared.command_line.Plan.{Plan}
use Rattle.wh_console.specs.Consoles.{ConsoleView}
use Rattle.wh_diagnostics.specs.declared.failures.Failure.{Failure}
use Rattle.wh_diagnostics.specs.Endings.{HasFailed}
use Rattle.wh_diagnostics.specs.Lines.{IsRefusedLine}

-- what is done with a plan, up to a status
abbrev pub Does : Type 1
Does = Plan → (old new : ConsoleView) → (status : ℕ) → Type 0

-- what is left of a plan without a full report, and why there is none
abbrev pub Leaves : Type 1
Leaves = Plan → (old new : ConsoleView) → Failure → Type 0

-- the words ask for a plan, and what that asks for was done
pub record ObeysWords (Obeys : Does) (words : List (List ℕ)) (old new : ConsoleView) (status : ℕ) : Type 0 where
  pub plan : Plan
  pub asked : IsAskedBy words plan
  pub obeys : Obeys plan old new status

-- the words ask for a plan, and what that asks for failed
pub record IsUndoneAtWords (IsUndone : Leaves) (words : List (List ℕ)) (old new : ConsoleView)
    (failure : Failure) : Type 0 where
  pub plan : Plan
  pub asked : IsAskedBy words plan
  pub stopped : IsUndone plan old new failure

-- why the words have no full report: they are refused, and the console is as it was, or what they ask for failed
abbrev pub IsUnanswered : Leaves → List (List ℕ) → (old new : ConsoleView) → Failure → Type 0
IsUnanswered IsUndone words old new failure =
    ((new ≡ old) × IsRefusedLine words failure) ⊎ IsUndoneAtWords IsUndone words old new failure

-- there is no full report: what the console got until then stands, and then the failure was reported, unless it is
-- that of a closed pipe
pub record HasNoReport (IsUndone : Leaves) (words : List (List ℕ)) (old new : ConsoleView) (status : ℕ)
    : Type 0 where
  pub failure : Failure
  pub between : ConsoleView
  pub why : IsUnanswered IsUndone words old between failure
  pub failed : HasFailed failure between new status

-- what the words ask for was done, or there is no full report
abbrev pub Answers : Does → Leaves → List (List ℕ) → (old new : ConsoleView) → (status : ℕ) → Type 0
Answers Obeys IsUndone words old new status =
    ObeysWords Obeys words old new status ⊎ HasNoReport IsUndone words old new status

-- no plan is asked for by the words
abbrev pub AskForNothing : List (List ℕ) → Type 0
AskForNothing words = (plan : Plan) → IsAskedBy words plan → ⊥
