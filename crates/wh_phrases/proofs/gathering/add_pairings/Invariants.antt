use Rattle.std.proofs.Common.{◌≡◌, ◌++◌, take}
use Rattle.std.specs.Prelude.{map}
use Rattle.std.specs.List.{flat_map}
use Rattle.serde_json.specs.View.{view}
use Rattle.wh_phrases.specs.Gathered.{pairing_values}
use Rattle.wh_phrases.proofs.gathering.add_pairings.Given as goal

-- the values of the pairings so far were added
abbrev pub invariant-loop-pairing : goal.invariant-loop-pairing
invariant-loop-pairing l =
    l.values.items ≡ l.initial.values.items ++ flat_map (pairing_values (map view l.members)) (take l.pairing-index l.pairings)
