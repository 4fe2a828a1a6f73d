-- Failures of activities.
use Rattle.std.specs.Prelude.{ℕ, List, Some, None, true, false, codes}
use Rattle.wh_tasks.specs.declared.failure.ActivityFailure.{ActivityFailure}

-- a failure without a type, after which the activity may be retried
abbrev pub plain : List ℕ → ActivityFailure
plain message = record { message = message; failure_type = None; retryable = true }

-- the failure of an activity whose type its worker does not know: it is not retried
abbrev pub not_found : List ℕ → ActivityFailure
not_found message = record { message = message; failure_type = Some (codes "NotFoundError"); retryable = false }
