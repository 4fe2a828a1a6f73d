-- The file at a path, and what a command does with it.
use Rattle.std.specs.Prelude.{◌⊎◌, ℕ, List, false}
use Rattle.wh_console.specs.Consoles.{ConsoleView}
use Rattle.wh_diagnostics.specs.Failures.{IsReadFailure}
use Rattle.wh_diagnostics.specs.Listings.{IsUnreadAt}
use Rattle.wh_diagnostics.specs.Readings.{Gives, IsReadAs}
use Rattle.wh_diagnostics.specs.declared.failures.Failure.{Failure}
use Rattle.wh_file_faults.specs.Faults.{File}
use Rattle.wh_console.specs.Inputs.{IsCalled, IsOf, IsSingle}
use Rattle.wh_console.specs.declared.files.Input.{Input}

-- a path names an input, which is no folder
pub record IsInputAt (path : List ℕ) (input : Input) : Type 0 where
  pub called : IsCalled false input
  pub from : IsOf path input.origin
  pub single : IsSingle input.origin

-- the input that a path names was read as a file
pub record IsFileAt (gives : Gives) (path : List ℕ) (file : File) : Type 0 where
  pub input : Input
  pub found : IsInputAt path input
  pub read : IsReadAs gives input file

-- a path names an input, and that can't be read
pub record IsUnreadInput (path : List ℕ) (failure : Failure) : Type 0 where
  pub input : Input
  pub found : IsInputAt path input
  pub why : IsReadFailure failure

-- why no file is read at a path: nothing can be read there, or the input that it names can't be
abbrev pub IsUnreadFile : (path : List ℕ) → Failure → Type 0
IsUnreadFile path failure = IsUnreadAt path failure ⊎ IsUnreadInput path failure

-- the file at a path was read, and what a command does with it was done, with this status
pub record HasCarriedOut (gives : Gives) (Own : File → (old new : ConsoleView) → (status : ℕ) → Type 0)
    (path : List ℕ) (old new : ConsoleView) (status : ℕ) : Type 0 where
  pub file : File
  pub read : IsFileAt gives path file
  pub done : Own file old new status

-- the file at a path was read, and this is why the rest failed
pub record IsUndoneOf (gives : Gives) (Fails : File → Failure → Type 0) (path : List ℕ) (failure : Failure)
    : Type 0 where
  pub file : File
  pub read : IsFileAt gives path file
  pub why : Fails file failure

-- why a command of the file at a path is not carried out in full: the file is not read, or it is, and the rest fails
abbrev pub IsNotCarriedOut : Gives → (Fails : File → Failure → Type 0) → (path : List ℕ) → Failure → Type 0
IsNotCarriedOut gives Fails path failure = IsUnreadFile path failure ⊎ IsUndoneOf gives Fails path failure
