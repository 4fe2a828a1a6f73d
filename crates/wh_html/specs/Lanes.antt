-- The things of the picture.
use Rattle.std.specs.Prelude.{ℕ, ◌+◌, ◌-◌, ◌*◌, ◌%◌, ◌==◌, ◌||◌, Bool, true, false, nat_le, max, min, if◌then◌else◌, Option, Some, None, List, [], length, codes}
use Rattle.std.specs.Str.{chars}
use Rattle.wh_html.specs.declared.axis.Stop.{Stop}
use Rattle.wh_html.specs.declared.page.Kind.{Kind}
use Rattle.wh_html.specs.declared.page.Kind.TheVariants.{Activity, Timer, Child, Signal, Request, Marker}
use Rattle.wh_html.specs.declared.page.Lane.{Lane}
use Rattle.wh_html.specs.declared.page.Moment.{Moment}
use Rattle.wh_html.specs.declared.page.RowPart.{RowPart}
use Rattle.wh_html.specs.declared.page.RowPart.TheVariants.{Alone, First, Later}
use Rattle.wh_html.specs.Axes.{place_of, right}
use Rattle.wh_html.specs.Words.{kind_word, outcome_class}
use Rattle.wh_html.specs.Html.{Html, nothing, markup, plain, hole, ◌⊕◌, number, stamp}

-- the class of the style sheet that marks what has the fault
abbrev pub hit_class : Bool → List ℕ
hit_class hit = if hit then codes " hit" else []

-- the event is that of the moment
abbrev pub is_at : (event : ℕ) → Option Moment → Bool
is_at event None = false
is_at event (Some moment) = moment.event == event

-- the event of the fault opened, started or ended the thing
abbrev pub is_hit : Lane → Option Moment → Bool
is_hit lane None = false
is_hit lane (Some fault) =
    lane.opened.event == fault.event || (is_at fault.event lane.started || is_at fault.event lane.ended)

-- an event and its time, after the words for what happened
abbrev pub event_html : (words : List ℕ) → Option Moment → Html
event_html words None = nothing
event_html words (Some moment) =
    plain words ⊕ markup (codes " by event ") ⊕ number moment.event ⊕ markup (codes ", ") ⊕ stamp moment.millis

-- how long something took, after the words for it, if that is known
abbrev pub span_html : (words : List ℕ) → Option (List ℕ) → Html
span_html words None = nothing
span_html words (Some span) = plain words ⊕ hole 100 span

-- how long a thing waited for its start, and how long it took
abbrev pub spans_html : (waited took : Option (List ℕ)) → Html
spans_html waited took = span_html (codes ", waited ") waited ⊕ span_html (codes ", took ") took

-- the type of a thing, if it has one, and its id
abbrev pub thing_html : Option (List ℕ) → List ℕ → Html
thing_html None name = hole 100 name
thing_html (Some type_name) name = hole 100 type_name ⊕ markup (codes " ") ⊕ hole 100 name

-- the title of a thing: its kind, its type, its id, its events, how long it waited and took, and its outcome
unfoldable pub title_html : Lane → Html
title_html lane =
    markup (codes "<title>")
    ⊕ plain (kind_word lane.kind)
    ⊕ markup (codes " ")
    ⊕ thing_html lane.type_name lane.name
    ⊕ markup (codes ": ")
    ⊕ event_html (codes "opened") (Some lane.opened)
    ⊕ event_html (codes "; started") lane.started
    ⊕ event_html (codes "; ended") lane.ended
    ⊕ spans_html lane.waited lane.took
    ⊕ markup (codes ": ")
    ⊕ hole 100 lane.words
    ⊕ markup (codes "</title>")

-- a bar from one place to another, at least three units wide
abbrev pub bar_html : (class : List ℕ) (from to : ℕ) → Html
bar_html class from to =
    markup (codes "<rect class=\"")
    ⊕ plain class
    ⊕ markup (codes "\" x=\"")
    ⊕ number from
    ⊕ markup (codes "\" y=\"4\" width=\"")
    ⊕ number (max (to - from) 3)
    ⊕ markup (codes "\" height=\"14\" rx=\"3\"/>")

-- where the bar of a thing ends: at the right end while it is open
abbrev pub end_of : List Stop → Option Moment → ℕ
end_of stops None = right
end_of stops (Some ended) = place_of stops ended.millis

-- the bar of a thing from its opening to its end, with the part before its start pale
abbrev pub bars_html : List Stop → (opened : Moment) (started ended : Option Moment) → Html
bars_html stops opened None ended = bar_html (codes "bar") (place_of stops opened.millis) (end_of stops ended)
bars_html stops opened (Some started) ended =
    bar_html (codes "wait") (place_of stops opened.millis) (place_of stops started.millis)
    ⊕ bar_html (codes "bar") (place_of stops started.millis) (end_of stops ended)

-- a dot
abbrev pub dot_html : List Stop → Moment → Html
dot_html stops opened =
    markup (codes "<circle class=\"bar\" cx=\"")
    ⊕ number (place_of stops opened.millis)
    ⊕ markup (codes "\" cy=\"11\" r=\"5\"/>")

-- things of the kind happen at once
abbrev pub is_at_once : Kind → Bool
is_at_once Activity = false
is_at_once Timer = false
is_at_once Child = false
is_at_once Signal = true
is_at_once Request = false
is_at_once Marker = true

-- the sign of a thing: a dot if it happens at once, or else its bar
abbrev pub sign_html : List Stop → Lane → Html
sign_html stops lane =
    if is_at_once lane.kind then dot_html stops lane.opened else bars_html stops lane.opened lane.started lane.ended

-- a stroke where the cancellation of a thing was requested, if it was
abbrev pub cancel_html : List Stop → Option Moment → Html
cancel_html stops None = nothing
cancel_html stops (Some moment) =
    markup (codes "<rect class=\"cancel\" x=\"")
    ⊕ number (place_of stops moment.millis)
    ⊕ markup (codes "\" y=\"1\" width=\"3\" height=\"20\"/>")

-- the classes of a thing in the style sheet: its kind, its outcome, and whether it has the fault
abbrev pub classes_html : Lane → Option Moment → Html
classes_html lane fault =
    plain (kind_word lane.kind)
    ⊕ markup (codes " ")
    ⊕ plain (outcome_class lane.outcome)
    ⊕ plain (hit_class (is_hit lane fault))

-- how many characters of a type a label has beside an id of so many: 27 with those of the id if these are 14 at most,
-- else 20
abbrev pub type_room : (id : ℕ) → ℕ
type_room id = if nat_le id 14 then 27 - id else 20

-- how many characters of the id it has beside those of a type of so many
abbrev pub id_room : (name id : ℕ) → ℕ
id_room name id = 27 - min name (type_room id)

-- the label of a thing alone in its row: its type with its id, or else its id alone
abbrev pub label_html : Option (List ℕ) → List ℕ → Html
label_html None name = hole 25 name
label_html (Some type_name) name =
    let id = length (chars name) in
    hole (type_room id) type_name ⊕ markup (codes " <tspan class=\"id\">")
    ⊕ hole (id_room (length (chars type_name)) id) name ⊕ markup (codes "</tspan>")

-- the label of things that share a row: their type, or the name of what happens at once, or else their kind
abbrev pub shared_label_html : Kind → Option (List ℕ) → List ℕ → Html
shared_label_html kind (Some type_name) name = hole 25 type_name
shared_label_html kind None name = if is_at_once kind then hole 25 name else plain (kind_word kind)

-- the outcome of a thing in words, beside its bar
abbrev pub said_html : List ℕ → Html
said_html words =
    markup (codes "<text class=\"said\" x=\"846\" y=\"15\">") ⊕ hole 22 words ⊕ markup (codes "</text>")

-- how many things have an outcome, if some have it
abbrev pub count_html : (outcome : List ℕ) → ℕ → Html
count_html outcome count =
    if count == 0 then nothing else (markup (codes ", ") ⊕ number count ⊕ markup (codes " ") ⊕ plain outcome)

-- of how many things a row tells, and how many of them are drawn, if not all are
abbrev pub times_html : (things drawn : ℕ) → Html
times_html things drawn =
    if things == drawn then (number things ⊕ markup (codes " times"))
    else (number drawn ⊕ markup (codes " of ") ⊕ number things)

-- of how many things a row tells, beside the bars
abbrev pub counts_html : (things drawn failed pending : ℕ) → Html
counts_html things drawn failed pending =
    markup (codes "<text class=\"said\" x=\"846\" y=\"15\">") ⊕ times_html things drawn
    ⊕ count_html (codes "failed") failed ⊕ count_html (codes "open") pending ⊕ markup (codes "</text>")

-- the classes of the ground of a row
abbrev pub room_class : (row : ℕ) → List ℕ
room_class row = if row % 2 == 0 then codes "room" else codes "room odd"

-- the ground of a row
abbrev pub ground_html : (row : ℕ) → Html
ground_html row = markup (codes "<rect class=\"") ⊕ plain (room_class row) ⊕ markup (codes "\" width=\"1000\" height=\"22\"/>")

-- the ground and the label of a row, with what is said beside its bars
abbrev pub row_html : (row : ℕ) → (label said : Html) → Html
row_html row label said =
    ground_html row ⊕ markup (codes "<text x=\"12\" y=\"15\">") ⊕ label ⊕ markup (codes "</text>") ⊕ said

-- what a thing says of its row, by how it stands there
abbrev pub row_part_html : RowPart → Lane → Html
row_part_html Alone lane = row_html lane.row (label_html lane.type_name lane.name) (said_html lane.words)
row_part_html (First things drawn failed pending) lane =
    row_html lane.row (shared_label_html lane.kind lane.type_name lane.name) (counts_html things drawn failed pending)
row_part_html Later lane = nothing

-- what a thing says of its row: its own label and outcome, those of all that share the row, or nothing if an earlier one
-- says that
unfoldable pub part_html : Lane → Html
part_html lane = row_part_html lane.part lane

-- where a row begins, in units of the picture from the top
abbrev pub top_of : (row : ℕ) → ℕ
top_of row = 70 + 22 * min row 300

-- a thing in its row
unfoldable pub lane_html : Option Moment → List Stop → Lane → Html
lane_html fault stops lane =
    markup (codes "<g class=\"lane ")
    ⊕ classes_html lane fault
    ⊕ markup (codes "\" transform=\"translate(0 ")
    ⊕ number (top_of lane.row)
    ⊕ markup (codes ")\">")
    ⊕ title_html lane
    ⊕ part_html lane
    ⊕ sign_html stops lane
    ⊕ cancel_html stops lane.cancelling
    ⊕ markup (codes "</g>\n")
