use Rattle.std.proofs.Common.{◌≡◌, ◌++◌, take}
use Rattle.std.specs.Prelude.{codes, string_bytes}
use Rattle.std.specs.List.{flat_map}
use Rattle.wh_view.proofs.members.push_values.Given as goal

-- the values so far stand after what was there
abbrev pub invariant-loop-value : goal.invariant-loop-value
invariant-loop-value l =
    string_bytes l.text ≡ string_bytes l.initial.text ++ flat_map (λ value. codes " " ++ value) (take l.value-index l.values)
