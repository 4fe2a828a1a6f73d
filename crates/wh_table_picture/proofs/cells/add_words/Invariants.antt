use Rattle.std.proofs.Common.{◌≡◌, ◌++◌, map, take}
use Rattle.std.specs.Prelude.{string_bytes}
use Rattle.std.specs.List.{flat_map}
use Rattle.serde_json.specs.View.{view}
use Rattle.wh_table_picture.specs.Cells.{after_comma}
use Rattle.wh_table_picture.proofs.cells.add_words.Given as goal

-- the words so far
abbrev pub invariant-loop-value : goal.invariant-loop-value
invariant-loop-value l =
    string_bytes l.text ≡ string_bytes l.initial.text ++ flat_map after_comma (map view (take l.value-index l.values))
