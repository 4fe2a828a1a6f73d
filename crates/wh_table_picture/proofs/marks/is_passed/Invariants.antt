use Rattle.std.proofs.Common.{◌≡◌, drop}
use Rattle.std.specs.Prelude.{bytes_eq}
use Rattle.std.specs.List.{list_any}
use Rattle.wh_table_picture.proofs.marks.is_passed.Given as goal

-- the state is none so far
abbrev pub invariant-loop-state : goal.invariant-loop-state
invariant-loop-state l = list_any (bytes_eq l.name) (drop l.state-index l.states) ≡ list_any (bytes_eq l.name) l.states
