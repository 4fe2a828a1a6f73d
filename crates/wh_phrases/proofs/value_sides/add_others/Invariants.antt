use Rattle.std.proofs.Common.{◌≡◌, ◌++◌, take}
use Rattle.std.specs.List.{flat_map}
use Rattle.std.specs.Prelude.{string_bytes}
use Rattle.wh_phrases.specs.ValueSides.{after_comma}
use Rattle.wh_phrases.proofs.value_sides.add_others.Given as goal

-- the payloads so far were added
abbrev pub invariant-loop-payload : goal.invariant-loop-payload
invariant-loop-payload l =
    string_bytes l.text ≡ string_bytes l.initial.text ++ flat_map (after_comma l.encoded) (take l.payload-index l.payloads)
