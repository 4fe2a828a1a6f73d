-- How many tasks were taken, completed and failed, and the sums over seats.
use Rattle.std.specs.Prelude.{◌≡◌, ℕ, ◌≤◌, List, length, sum_by}
use Rattle.wh_host.specs.declared.ledger.Shares.{Shares}

abbrev pub shares_of : ℕ → ℕ → ℕ → Shares
shares_of taken completed failed = record { taken = taken; completed = completed; failed = failed }

-- nothing was counted
abbrev pub no_shares : Shares
no_shares = shares_of 0 0 0

-- the sums of the shares of all seats
abbrev pub sums_of : List Shares → Shares
sums_of seats = shares_of (sum_by (λ s. s.taken) seats) (sum_by (λ s. s.completed) seats) (sum_by (λ s. s.failed) seats)

-- no share is above its book
abbrev pub IsWithin : Shares → Shares → Type 0
IsWithin seat books = (seat.taken ≤ books.taken) × (seat.completed ≤ books.completed) × (seat.failed ≤ books.failed)

-- the share, of so many parts and this amount, is all that the seats have of a ledger, which has `all` parts
pub record IsSumOf (all : ℕ) (count : Shares → ℕ) (seats : List Shares) (parts amount : ℕ) : Type 0 where
  pub each : parts ≡ length seats
  pub within : parts ≤ all
  pub sum : amount ≡ sum_by count seats
