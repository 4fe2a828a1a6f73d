-- What is marked in the picture of a table.
use Rattle.std.specs.Prelude.{ℕ, List, Option, Some, None, map, bytes_eq, Bool, false, if◌then◌else◌}
use Rattle.std.specs.List.{list_any}
use Rattle.wh_table_picture.specs.declared.layout.PictureRow.{PictureRow}
use Rattle.wh_table_picture.specs.declared.layout.StateMark.{StateMark}
use Rattle.wh_table_picture.specs.declared.layout.StateMark.TheVariants.{Unmarked, Passed, Last}
use Rattle.wh_table_picture.specs.declared.marks.Marks.{Marks}
use Rattle.wh_table_picture.specs.Layout.{has_row}

-- the state is the last one
abbrev pub is_last : Option (List ℕ) → List ℕ → Bool
is_last None state = false
is_last (Some name) state = bytes_eq name state

-- how a state is marked: as the last one, or else as one that was passed
abbrev pub state_mark : Marks → List ℕ → StateMark
state_mark marks state =
    if is_last marks.last state then Last
    else if list_any (bytes_eq state) marks.states then Passed
    else Unmarked

-- a row with its marks
abbrev pub marked_line : Marks → PictureRow → PictureRow
marked_line marks line = record line {
  taken = has_row marks.rows line.number;
  mark = state_mark marks line.state;
}

-- rows with theirs
abbrev pub marked : Marks → List PictureRow → List PictureRow
marked marks lines = map (marked_line marks) lines
