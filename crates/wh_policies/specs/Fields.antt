-- The values of a table's keys.
use Rattle.std.specs.Prelude.{◌≡◌, ◌≢◌, ℕ, ℤ, pos, negsuc, List, [], Bool, nat_le, ◌&&◌, Option, Some, None, option_and_then, if◌then◌else◌}
use Rattle.toml.specs.Data.{Data, Members, table, as_bool, as_integer, as_str}

-- a number that is not below zero
abbrev pub natural : ℤ → Option ℕ
natural (pos n) = Some n
natural (negsuc n) = None

abbrev pub if_within : ℕ → ℕ → ℕ → Option ℕ
if_within least most n = if nat_le least n && nat_le n most then Some n else None

-- the value as a whole number within limits
abbrev pub number_in : ℕ → ℕ → Data → Option ℕ
number_in least most value = option_and_then (if_within least most) (option_and_then natural (as_integer value))

-- seconds are at least one, and fit 32 bits
abbrev pub seconds_in : Data → Option ℕ
seconds_in value = number_in 1 4294967295 value

-- the number is the key's value, within limits; if there is no value it is the default
abbrev pub GivesNumber : ℕ → ℕ → ℕ → Option Data → ℕ → Type 0
GivesNumber least most otherwise None number = number ≡ otherwise
GivesNumber least most otherwise (Some value) number = number_in least most value ≡ Some number

abbrev pub GivesSeconds : Option ℕ → Option Data → Option ℕ → Type 0
GivesSeconds otherwise None seconds = seconds ≡ otherwise
GivesSeconds otherwise (Some value) seconds = (n : ℕ) × (seconds ≡ Some n) × (seconds_in value ≡ Some n)

abbrev pub GivesTruth : Bool → Option Data → Bool → Type 0
GivesTruth otherwise None truth = truth ≡ otherwise
GivesTruth otherwise (Some value) truth = as_bool value ≡ Some truth

abbrev pub GivesText : Option (List ℕ) → Option Data → Option (List ℕ) → Type 0
GivesText otherwise None text = text ≡ otherwise
GivesText otherwise (Some value) text = (t : List ℕ) × (text ≡ Some t) × (as_str value ≡ Some t)

-- the name of a Task Queue is a text that is not empty
abbrev pub GivesQueue : Option (List ℕ) → Option Data → Option (List ℕ) → Type 0
GivesQueue otherwise None queue = queue ≡ otherwise
GivesQueue otherwise (Some value) queue = (t : List ℕ) × (queue ≡ Some t) × (as_str value ≡ Some t) × (t ≢ [])

-- the value is the table, or there is neither
abbrev pub HasTable : Option Members → Option Data → Type 0
HasTable None found = found ≡ None
HasTable (Some members) found = found ≡ Some (table members)
