-- Optional values.
use Rattle.std.specs.Prelude.{Option, Some, None}

-- continue with the value, if there is one
infixl 10 ◌>>=◌
abbrev pub ◌>>=◌ : {A B : Type 0} → Option A → (A → Option B) → Option B
(Some x) >>= f = f x
None >>= f = None
