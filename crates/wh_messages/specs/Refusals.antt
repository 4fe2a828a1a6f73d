-- The error messages of a server.
use Rattle.std.specs.Prelude.{◌≡◌, ℕ, ℤ, pos, List, codes}
use Rattle.std.specs.Str.Iter.{HasSubslice}

-- a server refuses the message as too large (gRPC, "Status codes", RESOURCE_EXHAUSTED)
abbrev pub IsTooLarge : ℤ → List ℕ → Type 0
IsTooLarge code message = (code ≡ pos 8) × HasSubslice message (codes "larger than max")
