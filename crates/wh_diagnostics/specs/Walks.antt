-- What a command makes of inputs that it reads one after the other.
use Rattle.std.specs.Prelude.{◌≡◌, ◌⊎◌, ℕ, List, [], ◌∷◌, ◌++◌, Bool, false}
use Rattle.wh_console.specs.Consoles.{ConsoleView, Printed}
use Rattle.wh_console.specs.declared.files.Input.{Input}
use Rattle.wh_diagnostics.specs.Listings.{lacks_files}
use Rattle.wh_diagnostics.specs.Printing.{IsRefused}
use Rattle.wh_diagnostics.specs.Readings.{Gives}
use Rattle.wh_diagnostics.specs.declared.failures.Failure.{Failure}
use Rattle.wh_diagnostics.specs.declared.failures.Failure.TheVariants.{Output, OutOfMemory}

-- what a command makes of inputs: what it keeps of one that is read and which text it writes of it before the next one
-- is read, why it may stop at that one, and what it ends with after all, by what it kept and whether files are lacking
pub record Visits (K : Type 0) : Type 1 where
  pub tells : Gives → Input → K → (text : List ℕ) → Type 0
  pub stops : Input → Failure → Type 0
  pub ends : List K → (lacks : Bool) → (old new : ConsoleView) → (status : ℕ) → Type 0

-- what is kept of an input of which nothing is written
abbrev pub Silently : {K : Type 0} → (Gives → Input → K → Type 0) → Gives → Input → K → (text : List ℕ) → Type 0
Silently Keeps gives input own text = Keeps gives input own × (text ≡ [])

-- a text was written of an input, nothing was reported, and this is kept
pub record IsTold {K : Type 0} (Tells : K → (text : List ℕ) → Type 0) (old new : ConsoleView) (own : K) : Type 0 where
  pub text : List ℕ
  pub tells : Tells own text
  pub printed : Printed old new text

-- inputs were told one after the other, and this is kept of them, in their order
abbrev pub AreTold : {K : Type 0} → (Tells : Input → K → (text : List ℕ) → Type 0) → List Input → List K
    → (old new : ConsoleView) → Type 0
AreTold Tells [] [] old new = new ≡ old
AreTold Tells (input ∷ inputs) (own ∷ others) old new =
    (between : ConsoleView) × IsTold (Tells input) old between own × AreTold Tells inputs others between new
AreTold Tells _ _ old new = ⊥

-- inputs were told one after the other, and then the command ended; its status may depend on whether files are left out
pub record HasWalked {K : Type 0} (visits : Visits K) (gives : Gives) (inputs : List Input) (left_out : Bool)
    (old new : ConsoleView) (status : ℕ) : Type 0 where
  pub all : List K
  pub between : ConsoleView
  pub told : AreTold (visits.tells gives) inputs all old between
  pub ended : visits.ends all (lacks_files left_out false inputs) between new status

-- the command stops at the first of these inputs, for this reason
abbrev pub IsStoppedAt : (Stops : Input → Failure → Type 0) → List Input → Failure → Type 0
IsStoppedAt Stops [] failure = ⊥
IsStoppedAt Stops (input ∷ inputs) failure = Stops input failure

-- a command broke off: the first inputs were told, perhaps none or all, and nothing more was reported or, unless the
-- output failed, written; it stopped at the input after those, or all were told and the output failed, or there was no
-- memory
pub record HasBrokenOff {K : Type 0} (visits : Visits K) (gives : Gives) (inputs : List Input) (old new : ConsoleView)
    (failure : Failure) : Type 0 where
  pub front : List Input
  pub rest : List Input
  pub parts : inputs ≡ front ++ rest
  pub all : List K
  pub between : ConsoleView
  pub told : AreTold (visits.tells gives) front all old between
  pub refused : IsRefused between new failure
  pub why : IsStoppedAt visits.stops rest failure ⊎ (((rest ≡ []) × (failure ≡ Output)) ⊎ (failure ≡ OutOfMemory))
