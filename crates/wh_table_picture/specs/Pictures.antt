-- The picture: the rows of a table by their states, and where each leads to.
use Rattle.std.specs.Prelude.{ℕ, ◌+◌, ◌*◌, ◌%◌, min, nat_lt, Bool, false, ◌||◌, if◌then◌else◌, Option, Some, None, List, [], ◌∷◌, length, nat_eq, codes}
use Rattle.wh_html.specs.Html.{Html, nothing, markup, plain, hole, ◌⊕◌, number, each}
use Rattle.wh_table_picture.specs.declared.paths.RowPath.{RowPath}
use Rattle.wh_table_picture.specs.declared.layout.PictureRow.{PictureRow}
use Rattle.wh_table_picture.specs.declared.layout.RowWay.{RowWay}
use Rattle.wh_table_picture.specs.declared.layout.StateMark.{StateMark}
use Rattle.wh_table_picture.specs.declared.layout.StateMark.TheVariants.{Unmarked, Passed, Last}
use Rattle.wh_table_picture.specs.Layout.{has_row}
use Rattle.wh_table_picture.specs.declared.style.TheConstants.{STYLE_OF_ROWS, STYLE_OF_MARKS}

-- where a row begins, from above
abbrev pub top_of : (place : ℕ) → ℕ
top_of place = 10 + 46 * min place 400

-- how many lanes there are
abbrev pub lanes : ℕ
lanes = 25

-- how far to the right the lines of a lane go
abbrev pub lane_of : (lane : ℕ) → ℕ
lane_of lane = 710 + 11 * min lane lanes

-- how the name of a state stands that is marked so
abbrev pub mark_class : StateMark → List ℕ
mark_class Unmarked = codes "name"
mark_class Passed = codes "name passed"
mark_class Last = codes "name last"

-- how the name of a state stands at a row: at the first of the state as it is marked, and at a later one
abbrev pub name_class : Bool → StateMark → List ℕ
name_class begins mark = if begins then mark_class mark else codes "name again"

-- how the box of the end stands, even if that is the last
abbrev pub end_class : Bool → List ℕ
end_class ended = if ended then codes "end last" else codes "end"

-- one of the paths takes the row of this number
abbrev pub is_taken : List RowPath → ℕ → Bool
is_taken [] number = false
is_taken (path ∷ paths) number = has_row path.rows number || is_taken paths number

-- how a row stands that a path takes, or another one
abbrev pub row_class : Bool → List ℕ
row_class taken = if taken then codes "row taken" else codes "row"

-- the conditions of a row
abbrev pub conditions_html : List ℕ → Html
conditions_html words =
    if nat_eq (length words) 0 then nothing
    else markup (codes "<tspan class=\"soft\" dx=\"8\">if ") ⊕ hole 30 words ⊕ markup (codes "</tspan>")

-- the commands of a row
abbrev pub gives_html : List ℕ → Html
gives_html words =
    if nat_eq (length words) 0 then markup (codes "<tspan class=\"soft\">nothing</tspan>") else hole 64 words

-- the marks of a row
abbrev pub marks_html : List ℕ → Html
marks_html words =
    if nat_eq (length words) 0 then nothing
    else markup (codes "<tspan class=\"soft\" dx=\"8\">") ⊕ hole 24 words ⊕ markup (codes "</tspan>")

-- the upper edge of a state, at its first row
abbrev pub edge_html : (place : ℕ) → Bool → Html
edge_html place begins =
    if begins
    then markup (codes "<line class=\"edge\" x1=\"10\" x2=\"690\" y1=\"") ⊕ number (top_of place) ⊕ markup (codes "\" y2=\"")
    ⊕ number (top_of place) ⊕ markup (codes "\"/>")
    else nothing

-- the tip of a line
abbrev pub tip_html : RowWay → Html
tip_html way =
    markup (codes "<path class=\"tip to") ⊕ number (way.lane % 5) ⊕ markup (codes "\" d=\"M690 ")
    ⊕ number (top_of way.place + 14) ⊕ markup (codes "l9 -5v10z\"/>")

-- a line from the place of a row, by the lane of its way, to the place where that leads
abbrev pub arrow_html : (place : ℕ) → RowWay → Html
arrow_html place way =
    markup (codes "<path class=\"way to") ⊕ number (way.lane % 5) ⊕ markup (codes "\" d=\"M690 ")
    ⊕ number (top_of place + 34) ⊕ markup (codes "H") ⊕ number (lane_of way.lane) ⊕ markup (codes "V")
    ⊕ number (top_of way.place + 14) ⊕ markup (codes "H698\"/>") ⊕ tip_html way

-- the name of the state that a way leads to, or that it closes the run
abbrev pub target_html : (closes : Bool) → (name : List ℕ) → Html
target_html closes name = if closes then markup (codes "closed") else hole 30 name

-- a line from the place of a row that ends with the name of the state to which its way leads
abbrev pub stub_html : (place : ℕ) → RowWay → (name : List ℕ) → Html
stub_html place way name =
    markup (codes "<path class=\"way to") ⊕ number (way.lane % 5) ⊕ markup (codes "\" d=\"M690 ")
    ⊕ number (top_of place + 34) ⊕ markup (codes "h14\"/><text class=\"stub\" x=\"708\" y=\"") ⊕ number (top_of place + 38)
    ⊕ markup (codes "\">&#8594; ") ⊕ target_html way.closes name ⊕ markup (codes "</text>")

-- where a row leads to: a line there, or a stub with the name if there is no lane for it
abbrev pub way_to_html : (place : ℕ) → RowWay → (name : List ℕ) → Html
way_to_html place way name = if nat_lt way.lane lanes then arrow_html place way else stub_html place way name

-- the same, if there is a way
abbrev pub way_if_html : (place : ℕ) → Option RowWay → (name : List ℕ) → Html
way_if_html place None name = nothing
way_if_html place (Some way) name = way_to_html place way name

-- where a row leads to, unless it stays in its state
abbrev pub way_html : PictureRow → Html
way_html line = way_if_html line.place line.way line.next

-- the box of a row, with the name of its state
abbrev pub state_html : PictureRow → Html
state_html line =
    markup (codes "<rect class=\"box\" x=\"10\" y=\"") ⊕ number (top_of line.place)
    ⊕ markup (codes "\" width=\"680\" height=\"46\"/><text class=\"") ⊕ plain (name_class line.begins line.mark)
    ⊕ markup (codes "\" x=\"24\" y=\"") ⊕ number (top_of line.place + 20) ⊕ markup (codes "\"><title>")
    ⊕ hole 300 line.state ⊕ markup (codes "</title>") ⊕ hole 17 line.state ⊕ markup (codes "</text>")

-- the job of a row, with its conditions
abbrev pub job_html : PictureRow → Html
job_html line =
    markup (codes "<text class=\"job\" x=\"180\" y=\"") ⊕ number (top_of line.place + 20) ⊕ markup (codes "\">")
    ⊕ hole 40 line.job ⊕ conditions_html line.conditions ⊕ markup (codes "</text>")

-- the commands of a row, with its marks
abbrev pub commands_html : PictureRow → Html
commands_html line =
    markup (codes "<text class=\"gives\" x=\"180\" y=\"") ⊕ number (top_of line.place + 37) ⊕ markup (codes "\">")
    ⊕ gives_html line.gives ⊕ marks_html line.marks ⊕ markup (codes "</text>")

-- a row of the picture, marked where it was taken, and where a path takes it
abbrev pub row_html : List RowPath → PictureRow → Html
row_html paths line =
    markup (codes "<g class=\"") ⊕ plain (row_class (line.taken || is_taken paths line.number)) ⊕ markup (codes "\">")
    ⊕ state_html line ⊕ job_html line ⊕ commands_html line ⊕ edge_html line.place line.begins
    ⊕ way_html line ⊕ markup (codes "</g>\n")

-- the number of a row that a path takes
abbrev pub taken_html : ℕ → Html
taken_html row = markup (codes " ") ⊕ number row

-- a path: what it tells, and its rows
abbrev pub path_html : RowPath → Html
path_html path =
    markup (codes "<li>") ⊕ hole 600 path.text ⊕ markup (codes ": rows") ⊕ each taken_html path.rows ⊕ markup (codes "</li>\n")

-- what the marks tell, if there are some
abbrev pub legend_html : List RowPath → Html
legend_html paths =
    if nat_eq (length paths) 0 then nothing
    else markup (codes "<section>\n<h2>Marked</h2>\n<p>The rows of each way that breaks a promise are marked.</p>\n<ul class=\"legend\">\n")
    ⊕ each path_html paths ⊕ markup (codes "</ul>\n</section>\n")

-- the rows of a picture and the end, which may be the last
abbrev pub drawn_html : List RowPath → List PictureRow → (ended : Bool) → Html
drawn_html paths lines ended =
    each (row_html paths) lines
    ⊕ markup (codes "<rect class=\"")
    ⊕ plain (end_class ended)
    ⊕ markup (codes "\" x=\"10\" y=\"")
    ⊕ number (top_of (length lines) + 6)
    ⊕ markup (codes "\" width=\"680\" height=\"34\"/><text class=\"name\" x=\"24\" y=\"")
    ⊕ number (top_of (length lines) + 28)
    ⊕ markup (codes "\">closed</text>\n</svg>\n</div>\n")

-- the picture of rows
unfoldable pub picture_html : List RowPath → List PictureRow → Html
picture_html paths lines =
    markup (codes "<section>\n<h2 id=\"states\">States</h2>\n<div class=\"scroll picture\" tabindex=\"0\" role=\"region\" aria-labelledby=\"states\">\n<svg viewBox=\"0 0 1000 ")
    ⊕ number (top_of (length lines) + 54)
    ⊕ markup (codes "\" role=\"img\" aria-labelledby=\"states\" aria-describedby=\"states-words\">\n<desc id=\"states-words\">The rows of ")
    ⊕ number (length lines)
    ⊕ markup (codes " by their states, and where each leads to. The table below says the same.</desc>\n")
    ⊕ drawn_html paths lines false
    ⊕ markup (codes "</section>\n")

-- the picture of rows some of which are marked, for the heading `way` of another page
unfoldable pub marked_html : List PictureRow → (ended : Bool) → Html
marked_html lines ended =
    markup (codes "<div class=\"scroll picture\" tabindex=\"0\" role=\"region\" aria-labelledby=\"way\">\n<svg class=\"marked\" viewBox=\"0 0 1000 ")
    ⊕ number (top_of (length lines) + 54)
    ⊕ markup (codes "\" role=\"img\" aria-labelledby=\"way\" aria-describedby=\"way-words\">\n<desc id=\"way-words\">The rows of ")
    ⊕ number (length lines)
    ⊕ markup (codes " by their states, and where each leads to. Those that were taken are marked, with the states that were passed.</desc>\n<style>\n")
    ⊕ markup STYLE_OF_ROWS.now
    ⊕ markup STYLE_OF_MARKS.now
    ⊕ markup (codes "</style>\n")
    ⊕ drawn_html [] lines ended
