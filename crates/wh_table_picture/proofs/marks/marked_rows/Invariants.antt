use Rattle.std.proofs.Common.{◌≡◌, map}
use Rattle.wh_table_picture.specs.Marking.{marked_line}
use Rattle.wh_table_picture.proofs.marks.marked_rows.Given as goal

-- the rows so far
abbrev pub invariant-loop-line : goal.invariant-loop-line
invariant-loop-line l = l.all.items ≡ map (marked_line l.marks) l.yielded
