use Rattle.std.proofs.Common.{◌≡◌, map, take}
use Rattle.wh_file_page.proofs.run_table.marks_of.Given as goal

-- the rows and the states so far
abbrev pub invariant-loop-turn : goal.invariant-loop-turn
invariant-loop-turn l = record {
  rows : l.rows.items ≡ map (λ turn. turn.row) (take l.turn-index l.turn-items);
  states : l.states.items ≡ map (λ turn. turn.state) (take l.turn-index l.turn-items);
}
