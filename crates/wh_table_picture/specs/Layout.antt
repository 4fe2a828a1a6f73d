-- Where the rows of a table stand in its picture, and where they lead to.
use Rattle.std.specs.Prelude.{ℕ, ◌+◌, ◌==◌, nat_lt, Bool, false, ◌||◌, List, [], ◌∷◌, length, map, take, count_by, get_or, nat_eq, bytes_eq, codes, slice_get, Option, Some, None, if◌then◌else◌}
use Rattle.serde_json.specs.Data.{Data}
use Rattle.wh_rows.specs.Tables.{Row}
use Rattle.wh_rows.specs.Rows.{some_closes}
use Rattle.wh_table_text.specs.Numbered.{numbered}
use Rattle.std.specs.Option.{option_map}
use Rattle.wh_table_picture.specs.declared.layout.PictureRow.{PictureRow}
use Rattle.wh_table_picture.specs.declared.layout.RowWay.{RowWay}
use Rattle.wh_table_picture.specs.declared.layout.StateMark.TheVariants.{Unmarked}
use Rattle.wh_table_picture.specs.Cells.{words_at}

-- one of these is the row of this number
abbrev pub has_row : List ℕ → ℕ → Bool
has_row [] number = false
has_row (row ∷ rows) number = nat_eq row number || has_row rows number

-- the place of the first row for the state, where the first of these has that place, or their end
abbrev pub first_from : ℕ → List ℕ → List Row → ℕ
first_from place name [] = place
first_from place name (row ∷ rows) = if bytes_eq row.state name then place else first_from (place + 1) name rows

-- the place of the first row for the state
abbrev pub first_of : List ℕ → List Row → ℕ
first_of name rows = first_from 0 name rows

-- for each row the index of the first row for its state
abbrev pub firsts_of : List Row → List ℕ
firsts_of rows = map (λ row. first_of row.state rows) rows

-- how many rows stand above those of a state: the rows of the states that begin before it
abbrev pub rows_above : List ℕ → (first : ℕ) → ℕ
rows_above firsts first = count_by (λ other. nat_lt other first) firsts

-- the place in the picture of the row at an index, whose state begins with the row at `first`: below the rows of the
-- states that begin before, and those of its state that come before
abbrev pub place_of : List ℕ → (index first : ℕ) → ℕ
place_of firsts index first = rows_above firsts first + count_by (λ other. other == first) (take index firsts)

-- how many states begin with one of these rows, of which the first has this index
abbrev pub states_from : (index : ℕ) → List ℕ → ℕ
states_from index [] = 0
states_from index (first ∷ firsts) = (if first == index then 1 else 0) + states_from (index + 1) firsts

-- how many states begin with one of the first rows of a table
abbrev pub state_count : List ℕ → ℕ
state_count firsts = states_from 0 firsts

-- the way to the state that begins with the row at an index, or to the end
abbrev pub way_to : List ℕ → (target : ℕ) → RowWay
way_to firsts target = record {
  place = rows_above firsts target;
  lane = state_count (take target firsts);
  closes = target == length firsts;
}

-- the index at a place of the list; 0 if there is none
abbrev pub index_in : List ℕ → (place : ℕ) → ℕ
index_in firsts place = get_or firsts place 0

-- where a row leads to, but for one that stays in its state: the end of the rows where it closes the run
abbrev pub leads_to : List Row → Row → Option ℕ
leads_to rows row =
    if some_closes row.gives then Some (length rows)
    else if bytes_eq row.next (codes "same") || bytes_eq row.next row.state then None
    else Some (first_of row.next rows)

-- the row at an index, with its words
abbrev pub line_of : List Row → List ℕ → (index : ℕ) → Row → Data → PictureRow
line_of rows firsts index row d =
    let first = index_in firsts index in
    record {
      place = place_of firsts index first;
      number = index + 1;
      begins = nat_eq first index;
      state = row.state;
      job = words_at 1 d;
      conditions = words_at 2 d;
      gives = words_at 3 d;
      next = words_at 4 d;
      marks = words_at 5 d;
      way = option_map (way_to firsts) (leads_to rows row);
      taken = false;
      mark = Unmarked;
    }

-- the row at an index, if there is one
abbrev pub line_by : List Row → List ℕ → (index : ℕ) → Option Row → Data → List PictureRow
line_by rows firsts index None d = []
line_by rows firsts index (Some row) d = line_of rows firsts index row d ∷ []

-- the row at an index
abbrev pub line_at : List Row → List ℕ → (index : ℕ) → Data → List PictureRow
line_at rows firsts index d = line_by rows firsts index (slice_get rows index) d

-- the rows of a table
abbrev pub lines_of : List Row → List Data → List PictureRow
lines_of rows ds = numbered (line_at rows (firsts_of rows)) 0 ds
