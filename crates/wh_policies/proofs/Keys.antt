-- The keys and the entries of a map are those of its members.
use Rattle.std.proofs.Common.{◌≡◌, ℕ, List, [], ◌∷◌, Bool, true, String, Global, string_bytes}
use Rattle.std.specs.List.{AllByRecursion}
use Rattle.std.specs.Map.{keys_of}
use Rattle.toml.specs.View.{members_view}
use Rattle.toml.proofs.Views.{Entry}
use Rattle.wh_policies.specs.TomlTables.{AllKnown}

-- each of the keys is known
abbrev pub AreKnown : (List ℕ → Bool) → List (String Global) → Type 0
AreKnown known keys = AllByRecursion (λ key. known (string_bytes key) ≡ true) keys

pub all_known : (known : List ℕ → Bool) (es : List Entry) → AreKnown known (keys_of es) → AllKnown known (members_view es)
all_known known [] are = tt
all_known known (e ∷ es) are = (are.0, all_known known es are.1)
