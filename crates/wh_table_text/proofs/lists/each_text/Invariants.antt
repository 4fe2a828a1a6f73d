use Rattle.std.proofs.Common.{◌≡◌, drop}
use Rattle.std.specs.Prelude.{map}
use Rattle.serde_json.specs.View.{view}
use Rattle.wh_row_rules.specs.Outcome.{all_of}
use Rattle.wh_table_text.specs.Reading.{text_at}
use Rattle.wh_row_rules.proofs.Outcomes.{with_front}
use Rattle.wh_table_text.proofs.lists.each_text.Given as goal

-- what has been read and the rest are the whole
abbrev pub invariant-loop-value : goal.invariant-loop-value
invariant-loop-value l =
    with_front l.texts.items (all_of (map (text_at l.fault) (map view (drop l.value-index l.values))))
    ≡ all_of (map (text_at l.fault) (map view l.values))
