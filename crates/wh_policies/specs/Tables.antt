-- The policy of a name.
use Rattle.std.specs.Prelude.{ℕ, List, [], ◌∷◌, Option, Some, None, bytes_eq, if◌then◌else◌}
use Rattle.wh_policies.specs.declared.table.PolicyRow.{PolicyRow}
use Rattle.wh_policies.specs.declared.table.PolicyTable.{PolicyTable}

-- the first of the rows that has the name
abbrev pub first_row : {P : Type 0} → List ℕ → List (PolicyRow P) → Option (PolicyRow P)
first_row name [] = None
first_row name (row ∷ rows) = if bytes_eq row.name name then Some row else first_row name rows

-- the policy of the row, if there is one
abbrev pub policy_or : {P : Type 0} → P → Option (PolicyRow P) → P
policy_or otherwise None = otherwise
policy_or otherwise (Some row) = row.policy

-- the policy of the first row that has the name, otherwise the policy of all other names
abbrev pub policy_of : {P : Type 0} → PolicyTable P → List ℕ → P
policy_of table name = policy_or table.otherwise (first_row name table.rows)
