-- Tables of faults: of the rows that apply to something, the least one is its fault.
use Rattle.std.specs.Prelude.{◌≡◌, ℕ, ◌≤◌, ◌↔◌, Option, Some, None}

-- the row of the fault applies, and none that applies is before it
pub record IsLeast {F : Type 0} (row_of : F → ℕ) (Applies : F → Type 0) (fault : F) : Type 0 where
  pub applies : Applies fault
  pub least : (other : F) → Applies other → row_of fault ≤ row_of other

-- the fault is the least row that applies; there is none exactly when no row applies
abbrev pub IsLeastOrNone : {F : Type 0} → (F → ℕ) → (F → Type 0) → Option F → Type 0
IsLeastOrNone {F} row_of Applies found =
    ((found ≡ None) ↔ ((row : F) → ¬ Applies row))
    × ((fault : F) → (found ≡ Some fault) ↔ IsLeast row_of Applies fault)
