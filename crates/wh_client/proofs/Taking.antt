-- Calls whose results say no more than that they were taken.
use Rattle.std.proofs.Common.{◌≡◌, ℕ, List, subst}
use Rattle.serde_json.specs.Data.{Data}
use Rattle.wh_client.specs.Calls.{Gives}
use Rattle.wh_client.specs.Requests.{IsTaken}

-- a call was taken with the parameters that were written for it
pub taken_by : (gives : Gives) (method : List ℕ) (params asked result : Data) → params ≡ asked
    → gives method params result → IsTaken gives method asked
taken_by gives method params asked result written given =
    record { result = result; given = subst (λ p. gives method p result) written given }
