use Rattle.std.proofs.Common.{◌≡◌, drop, map}
use Rattle.wh_row_rules.specs.Outcome.{all_of}
use Rattle.wh_table_text.specs.Reading.{effect_at}
use Rattle.wh_row_rules.proofs.Outcomes.{with_front}
use Rattle.wh_table_text.proofs.lists.each_effect.Given as goal

-- what has been read and the rest are the whole
abbrev pub invariant-loop-text : goal.invariant-loop-text
invariant-loop-text l =
    with_front l.given.items (all_of (map (effect_at l.names l.row) (drop l.text-index l.texts)))
    ≡ all_of (map (effect_at l.names l.row) l.texts)
