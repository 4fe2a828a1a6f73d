-- Configurations that were found show a promise where they have the first one and each that a job leads to, and none
-- of them spends more than the budget.
use Rattle.std.specs.Prelude.{◌≡◌, ℕ, zero, suc, Bool, true, false, ◌&&◌, ◌||◌, List, [], ◌∷◌, ◌++◌, leb, ltb}
use Rattle.wh_rows.specs.declared.row.Counters.{Counters}
use Rattle.wh_rows.specs.Watches.{Turn}
use Rattle.wh_rows.specs.Deciding.{Line, Config, Case, steps, starts, covered, each, asks_within, all_within, are_cuts, begun}

-- one of these covers the configuration
abbrev pub is_in : List Config → Config → Bool
is_in [] one = false
is_in (other ∷ rest) one = covered one other || is_in rest one

-- a configuration keeps to the budget, and leads to those that were found
abbrev pub is_good : Counters → List Turn → ℕ → List Line → List Config → Config → Bool
is_good tops turns budget rows all one = leb one.watch.spent budget && each (is_in all) (steps tops turns rows one)

-- the second list goes on from the first
abbrev pub GoesOn : List Config → List Config → Type 0
GoesOn first second = (more : List Config) × (second ≡ first ++ more)

-- where so many jobs but the last one lead from these on, each keeps to the budget
abbrev pub Leads : Counters → List Turn → ℕ → List Line → ℕ → List Config → Type 0
Leads tops turns budget rows zero all = Unit {0}
Leads tops turns budget rows (suc many) all =
    (next : List Config) × (each (is_good tops turns budget rows next) all ≡ true)
    × Leads tops turns budget rows many next

-- so from those on that the start leads to, where the first state has this number
abbrev pub LeadsFrom : Counters → List Turn → ℕ → List Line → ℕ → ℕ → Type 0
LeadsFrom tops turns budget rows first many =
    (all : List Config) × (each (is_in all) (starts tops turns rows (begun first)) ≡ true)
    × Leads tops turns budget rows many all

-- no counter is cut past its bound, and cut counters tell of each row whether it fits
abbrev pub is_within_case : Case → Counters → Bool
is_within_case it tops = are_cuts it.bounds tops && all_within it.many tops it.rows

-- the configurations show that a run keeps to the budget
abbrev pub shows_all : Case → Counters → List Turn → ℕ → List Config → Bool
shows_all it tops turns budget all =
    is_within_case it tops
    && (each (is_in all) (starts tops turns it.rows (begun it.first)) && each (is_good tops turns budget it.rows all) all)
