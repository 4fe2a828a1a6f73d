-- The table of a run, with the path that the run took through its rows.
use Rattle.std.specs.Prelude.{◌≡◌, ◌↔◌, ℕ, IsSome, Bool, true, false, if◌then◌else◌, List, [], ◌∷◌, length, map, codes, Option, Some, None}
use Rattle.std.specs.Option.{option_map}
use Rattle.wh_events.specs.declared.event.Payload.{Payload}
use Rattle.wh_html.specs.Html.{Html, nothing, markup, plain, hole, ◌⊕◌, number}
use Rattle.wh_file_page.specs.declared.way.Way.{Way}
use Rattle.wh_file_page.specs.Ways.{IsWayOf}
use Rattle.wh_file_page.specs.Brought.{BringsTable}
use Rattle.wh_table_picture.specs.declared.layout.PictureRow.{PictureRow}
use Rattle.wh_table_picture.specs.declared.marks.Marks.{Marks}
use Rattle.wh_table_picture.specs.Drawings.{table_lines}
use Rattle.wh_table_picture.specs.Marking.{marked}
use Rattle.wh_table_picture.specs.Pictures.{marked_html}
use Rattle.wh_table_picture.specs.Without.{without_words}
use Rattle.wh_file_page.specs.declared.run_table.RunTable.{RunTable}

-- what is marked of a path: its rows and their states, and the state that it leads to
abbrev pub marks_of : Way → Marks
marks_of way = record {
  rows = map (λ turn. turn.row) way.turns;
  states = map (λ turn. turn.state) way.turns;
  last = if way.left.run.closed then None else Some way.left.run.at;
}

-- the rows of the table that came in the first payload, with their marks
abbrev pub lines_of : Marks → List Payload → List PictureRow
lines_of marks [] = []
lines_of marks (first ∷ others) = marked marks (table_lines first.content)

-- the table of a run with this path
abbrev pub run_table : Way → RunTable
run_table way = record {
  lines = lines_of (marks_of way) way.left.payload;
  taken = length way.turns;
  state = way.left.run.at;
  closed = way.left.run.closed;
}

-- that of the run of a history file, which is there exactly when the run brings a table and a workflow task was started
pub record IsTableIn (bytes : List ℕ) (table : Option RunTable) : Type 0 where
  pub way : Option Way
  pub took : IsWayOf bytes way
  pub is : table ≡ option_map run_table way
  pub brought : IsSome table ↔ BringsTable bytes

-- the same, but none if nothing is replayed
abbrev pub IsTableOf : (only_recorded : Bool) → (bytes : List ℕ) → Option RunTable → Type 0
IsTableOf true bytes table = table ≡ None
IsTableOf false bytes table = IsTableIn bytes table

-- what is said of a run after its state, if it is closed
abbrev pub closed_words : Bool → List ℕ
closed_words closed = if closed then codes "; the run is closed" else []

-- where a run stands after its last replayed task, whatever its history has after that: in the state that it keeps also
-- when it is closed
abbrev pub standing_html : RunTable → Html
standing_html table =
    markup (codes "After its last replayed task it stands in the state <strong>")
    ⊕ hole 100 table.state
    ⊕ markup (codes "</strong>")
    ⊕ plain (closed_words table.closed)
    ⊕ markup (codes ".")

-- the section of the table of a run
abbrev pub section_html : RunTable → Html
section_html table =
    markup (codes "<section>\n<h2 id=\"way\">The table of this run</h2>\n<p>Jobs for which the run took a row: ")
    ⊕ number table.taken
    ⊕ markup (codes ". ")
    ⊕ standing_html table
    ⊕ markup (codes "</p>\n")
    ⊕ marked_html table.lines table.closed
    ⊕ markup (codes "</section>\n")

-- the same, if there is one
abbrev pub table_html : Option RunTable → Html
table_html None = nothing
table_html (Some table) = section_html table

-- the table of a run without its words
abbrev pub without_table_words : RunTable → RunTable
without_table_words table = record table { lines = map without_words table.lines; state = [] }
