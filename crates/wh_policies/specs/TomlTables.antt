-- Tables by name, and what is read from them.
use Rattle.std.specs.Prelude.{◌≡◌, ℕ, List, [], ◌∷◌, Bool, true, Option, Some, None, ⊤}
use Rattle.toml.specs.Data.{Data, Members, no_members, member, get_member, table}
use Rattle.wh_policies.specs.declared.table.PolicyRow.{PolicyRow}
use Rattle.wh_policies.specs.declared.table.PolicyTable.{PolicyTable}

-- each key is known
abbrev pub AllKnown : (List ℕ → Bool) → Members → Type 0
AllKnown known no_members = ⊤
AllKnown known (member key d members) = (known key ≡ true) × AllKnown known members

-- what is read from a table with these defaults
abbrev pub Gives : Type 0 → Type 1
Gives P = Members → P → P → Type 0

-- the row has the name, and the policy that is read from the name's table
abbrev pub IsRow : {P : Type 0} → Gives P → P → List ℕ → Data → PolicyRow P → Type 0
IsRow gives otherwise name (table members) row = (row.name ≡ name) × gives members otherwise row.policy
IsRow gives otherwise name _ row = ⊥

-- a row for each member, in their order
abbrev pub AreRows : {P : Type 0} → Gives P → P → Members → List (PolicyRow P) → Type 0
AreRows gives otherwise no_members [] = ⊤
AreRows gives otherwise (member name d members) (row ∷ rows) =
    IsRow gives otherwise name d row × AreRows gives otherwise members rows
AreRows gives otherwise _ _ = ⊥

-- the policy is read from the key's table; a missing table counts as an empty one
abbrev pub GivesAll : {P : Type 0} → Gives P → P → Option Data → P → Type 0
GivesAll gives plain None policy = gives no_members plain policy
GivesAll gives plain (Some (table members)) policy = gives members plain policy
GivesAll gives plain (Some _) policy = ⊥

abbrev pub GivesRows : {P : Type 0} → Gives P → P → Option Data → List (PolicyRow P) → Type 0
GivesRows gives otherwise None rows = rows ≡ []
GivesRows gives otherwise (Some (table members)) rows = AreRows gives otherwise members rows
GivesRows gives otherwise (Some _) rows = ⊥

-- the policies of a kind: that of all names, and a row for each name that has one
pub record GivesTable {P : Type 0} (gives : Gives P) (all each : List ℕ)
    (plain : P) (document : Members) (policies : PolicyTable P) : Type 0 where
  pub otherwise : GivesAll gives plain (get_member all document) policies.otherwise
  pub rows : GivesRows gives policies.otherwise (get_member each document) policies.rows
