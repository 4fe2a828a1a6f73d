use Rattle.std.proofs.Common.{◌≡◌, ◌+◌, ◌≤◌, drop}
use Rattle.wh_table_picture.specs.Layout.{states_from}
use Rattle.wh_table_picture.proofs.layout.state_count.Given as goal

-- the states so far and those of the rest are all; each begins at an index
abbrev pub invariant-loop-index : goal.invariant-loop-index
invariant-loop-index l =
    (l.count + states_from l.index (drop l.index l.firsts) ≡ states_from 0 l.firsts) × (l.count ≤ l.index)
