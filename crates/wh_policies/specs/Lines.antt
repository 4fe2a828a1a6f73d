-- Lines of a text.
use Rattle.std.specs.Prelude.{ℕ, ◌+◌, List, count_by, eqb, take}

-- the line of a position, counted from 1
abbrev pub line_at : ℕ → List ℕ → ℕ
line_at place text = count_by (λ byte. eqb byte 10) (take place text) + 1
