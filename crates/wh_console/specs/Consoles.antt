-- What contracts see of a console, and what changes it.
use Rattle.std.specs.Prelude.{◌≡◌, ℕ, List, Bool, true, Option}
use Rattle.std.specs.Io.KnownBytes.{Appends}

-- the name by which the program was called, what the output and the errors have received (where that is known), whether
-- the reader of the output closed it, and whether every message was written in full
pub record ConsoleView : Type 0 where
  pub name : List ℕ
  pub output : Option (List ℕ)
  pub closed : Bool
  pub errors : Option (List ℕ)
  pub whole : Bool

-- nothing was reported: only what the output has received and whether it is closed may have changed
pub record IsQuiet (old new : ConsoleView) : Type 0 where
  pub named : new.name ≡ old.name
  pub errors : new.errors ≡ old.errors
  pub whole : new.whole ≡ old.whole

-- the output received a text, and nothing was reported
pub record Printed (old new : ConsoleView) (text : List ℕ) : Type 0 where
  pub quiet : IsQuiet old new
  pub taken : Appends old.output new.output text

-- a text, which depends on the program's name, was reported: if every message is still written in full, the errors have
-- received just that text more. The output is as before
pub record Reported (old new : ConsoleView) (text : List ℕ → List ℕ) : Type 0 where
  pub named : new.name ≡ old.name
  pub output : new.output ≡ old.output
  pub closed : new.closed ≡ old.closed
  pub told : new.whole ≡ true → (old.whole ≡ true) × Appends old.errors new.errors (text old.name)
