-- Counts that stop at 2^64 - 1.
use Rattle.std.specs.Prelude.{ℕ, ◌+◌, ◌-◌, ◌^◌, min}

-- a count, at most 2^64 - 1
abbrev pub at_most : ℕ → ℕ
at_most n = min n (2 ^ 64 - 1)

-- the sum of two counts, at most 2^64 - 1
abbrev pub together : ℕ → ℕ → ℕ
together m n = min (m + n) (2 ^ 64 - 1)
