use Rattle.std.proofs.Common.{◌≡◌, ℕ, List, [], take}
use Rattle.std.specs.BTreeMap.{get_by_text}
use Rattle.std.specs.Option.{option_map_or}
use Rattle.wh_times.specs.Sums.{of_type}
use Rattle.wh_times.proofs.sums.groups_of.Given as goal

-- the things so far are in the groups of their types
abbrev pub invariant-loop-typed : goal.invariant-loop-typed
invariant-loop-typed l = (name : List ℕ) → option_map_or (λ g. g.items) (get_by_text l.groups name) [] ≡ of_type name (take l.typed-index l.things)
