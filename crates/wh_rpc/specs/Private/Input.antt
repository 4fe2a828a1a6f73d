-- The lines of an input.
use Rattle.std.specs.Prelude.{◌≡◌, ℕ, ◌+◌, ◌-◌, ◌<◌, ◌==◌, ◌||◌, List, [], ◌∷◌, ◌++◌, Bool, true, false, length, take, drop, Option, Some, None, IfSome, if◌then◌else◌}
use Rattle.std.specs.Io.BufRead.{take_through}
use Rattle.std.specs.Io.KnownBytes.{Consumes}
use Rattle.wh_rpc.specs.Responses.{longest}

-- the bytes before the first line feed
abbrev pub before_end : List ℕ → List ℕ
before_end [] = []
before_end (byte ∷ bytes) = if byte == 10 then [] else byte ∷ before_end bytes

-- whether there is a line feed
abbrev pub has_end : List ℕ → Bool
has_end [] = false
has_end (byte ∷ bytes) = (byte == 10) || has_end bytes

-- the next line, but at most one byte more than a line may have
abbrev pub next_of : List ℕ → Option (List ℕ)
next_of [] = None
next_of (byte ∷ bytes) = Some (take (longest + 1) (before_end (byte ∷ bytes)))

-- the bytes that are read as the next line: up to and including its end, but at most one more than a line may have
abbrev pub read_of : List ℕ → List ℕ
read_of bytes = take_through 10 (take (longest + 1) bytes)

-- what remains after them
abbrev pub after_read : List ℕ → List ℕ
after_read bytes = drop (length (read_of bytes)) bytes

-- a part of a line was taken out of the input and appended to the part before; done says whether the line is complete
pub record ReadsOn (old new : Option (List ℕ)) (before after : List ℕ) (done : Bool) : Type 0 where
  pub part : List ℕ
  pub appended : after ≡ before ++ part
  pub taken : Consumes old new part
  pub last : done ≡ true → IfSome old (λ bytes. part ≡ take_through 10 (take (longest + 1 - length before) bytes))
  pub open_still : done ≡ false → (has_end part ≡ false) × (length part < longest + 1 - length before)
