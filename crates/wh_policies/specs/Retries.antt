-- How a retry policy is read from a table.
use Rattle.std.specs.Prelude.{◌≡◌, ℕ, Float, List, [], ◌∷◌, Bool, true, ◌&&◌, ◌||◌, bytes_eq, codes, Option, Some, None, ⊤}
use Rattle.std.specs.Float.{float_is_finite, float_one}
use Rattle.std.specs.Float.Ieee.{le}
use Rattle.toml.specs.Data.{Data, Items, no_items, item, Members, no_members, array, as_float, get_member, string, table}
use Rattle.wh_policies.specs.declared.policies.RetryPolicy.{RetryPolicy}
use Rattle.wh_policies.specs.Defaults as plain
use Rattle.wh_policies.specs.Fields.{GivesNumber, GivesSeconds}

-- the items are these texts
abbrev pub AreTexts : Items → List (List ℕ) → Type 0
AreTexts no_items [] = ⊤
AreTexts (item (string s) items) (text ∷ texts) = (s ≡ text) × AreTexts items texts
AreTexts _ _ = ⊥

abbrev pub GivesTypes : List (List ℕ) → Option Data → List (List ℕ) → Type 0
GivesTypes otherwise None types = types ≡ otherwise
GivesTypes otherwise (Some (array items)) types = AreTexts items types
GivesTypes otherwise (Some _) types = ⊥

-- a finite number of at least 1
abbrev pub is_factor : Float → Bool
is_factor x = le float_one x && float_is_finite x

abbrev pub GivesCoefficient : Option Float → Option Data → Option Float → Type 0
GivesCoefficient otherwise None coefficient = coefficient ≡ otherwise
GivesCoefficient otherwise (Some value) coefficient =
    (x : Float) × (coefficient ≡ Some x) × (as_float value ≡ Some x) × (is_factor x ≡ true)

-- the keys of a retry policy
abbrev pub knows_retry : List ℕ → Bool
knows_retry key =
    bytes_eq key (codes "maximum_attempts") || (bytes_eq key (codes "initial_interval")
    || (bytes_eq key (codes "maximum_interval") || (bytes_eq key (codes "backoff_coefficient")
    || bytes_eq key (codes "non_retryable"))))

-- a retry policy is read from a table with these defaults
pub record GivesRetry (members : Members) (otherwise retry : RetryPolicy) : Type 0 where
  pub attempts : GivesNumber 0 2147483647 otherwise.maximum_attempts
      (get_member (codes "maximum_attempts") members) retry.maximum_attempts
  pub initial : GivesSeconds otherwise.initial_interval
      (get_member (codes "initial_interval") members) retry.initial_interval
  pub maximum : GivesSeconds otherwise.maximum_interval
      (get_member (codes "maximum_interval") members) retry.maximum_interval
  pub coefficient : GivesCoefficient otherwise.backoff_coefficient
      (get_member (codes "backoff_coefficient") members) retry.backoff_coefficient
  pub types : GivesTypes otherwise.non_retryable (get_member (codes "non_retryable") members) retry.non_retryable

-- the policy is read from the key's table; a missing table counts as an empty one
abbrev pub GivesRetryAt : RetryPolicy → Option Data → RetryPolicy → Type 0
GivesRetryAt otherwise None retry = GivesRetry no_members otherwise retry
GivesRetryAt otherwise (Some (table members)) retry = GivesRetry members otherwise retry
GivesRetryAt otherwise (Some _) retry = ⊥

-- the same if there may be no policy, and no defaults
abbrev pub GivesRetryIfAny : Option RetryPolicy → Option Data → Option RetryPolicy → Type 0
GivesRetryIfAny None None found = found ≡ None
GivesRetryIfAny (Some otherwise) given (Some retry) = GivesRetryAt otherwise given retry
GivesRetryIfAny None given (Some retry) = GivesRetryAt (plain.retry 0) given retry
GivesRetryIfAny _ _ None = ⊥
